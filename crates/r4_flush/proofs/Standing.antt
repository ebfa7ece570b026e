-- What stands in memory stands off the blocks that were chosen.
use Rattle.std.proofs.Common.{◌≡◌, ℕ, List, Option, Some, None, false, sym, ap, ◌∙◌, subst}
use Rattle.std.specs.Prelude.{Contains}
use Rattle.r4_base.proofs.Choices.{never_both}
use Rattle.r4_base.specs.Tree.{Node}
use Rattle.r4_base.specs.Value.{Content, Value}
use Rattle.r4_base.specs.declared.things.BlockNo.{BlockNo}
use Rattle.r4_cell.specs.Seen.{CellSeen, node_of}
use Rattle.r4_content.specs.Locality.{Meaning}
use Rattle.r4_content.specs.declared.command.Command.{Command}
use Rattle.r4_content.specs.declared.reply.Reply.{Reply}
use Rattle.r4_place.specs.Chosen.{fresh_blocks}
use Rattle.r4_flushed.specs.r4_commit.Plannable.{is_marked_in}
use Rattle.r4_flushed.specs.r4_sealed.Commits.{spot, spot_of}
use Rattle.r4_flushed.specs.r4_sets.Session.{Session, Sets}
use Rattle.r4_flushed.proofs.r4_sets.Applied.{memory_stands}
use Rattle.r4_flushed.specs.r4_placed.Flushing.{Flushing, IsAtRest}
use Rattle.r4_flushed.proofs.r4_placed.Planning.{cell_marked, fresh_free, fresh_of, unowned_from}
use Rattle.r4_flushed.specs.Flushed.{OwnsBlocks}
use Rattle.r4_flush.specs.Joined.{NameNoneChosen}

pub stands_off : (w : Meaning Command Reply) (n : ℕ) (work : Flushing) (m : Content) (r : IsAtRest n work m)
    (c : Session) → Sets w c → ((i : ℕ) → c.under.cells i ≡ r.content.store i) → OwnsBlocks c → (i : ℕ)
    (d : Node Value) → c.memory i ≡ Some d → Contains (fresh_blocks work.answers) i → ⊥
stands_off w n work m r c sets alone owns i d is one =
    let (q, in_q, high, (a, some, at)) =
    fresh_of 22 work.space work.cells work.answers i r.chosen r.names one in
    let here : spot work.answers q ≡ i = ap (λ (o : Option BlockNo). spot_of o q.id) some ∙ at in
    let none : c.owner i ≡ None = ap c.owner (sym here) ∙ unowned_from n work m r c.owner
    (λ j k own low. let (e, stood) = owns j k own low in (e, sym (alone j) ∙ stood)) q in_q high in
    let stood : r.content.store i ≡ Some d = sym (sets.clean i none ∙ alone i) ∙ is in
    never_both (is_marked_in work.space i) (cell_marked n work m r i d stood).0
    (subst (λ (k : ℕ). is_marked_in work.space k ≡ false) here (fresh_free n work m r q in_q high).1)

pub name_none : (w : Meaning Command Reply) (n : ℕ) (work : Flushing) (m : Content) (r : IsAtRest n work m)
    (c : Session) → Sets w c → ((i : ℕ) → c.under.cells i ≡ r.content.store i) → OwnsBlocks c
    → (cells : List CellSeen) → ((x : CellSeen) → Contains cells x → c.memory x.id ≡ Some (node_of x))
    → NameNoneChosen cells work.answers
name_none w n work m r c sets alone owns cells mine x z one named fresh =
    let tree = (memory_stands w c sets).is.tree in
    let (d, is, fits) = tree.named x.id (node_of x) z (mine x one) named in
    stands_off w n work m r c sets alone owns z.id d is fresh
