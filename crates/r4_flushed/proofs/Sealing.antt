-- An open atom is sealed under the names of its blocks.
use Rattle.std.proofs.Common.{◌≡◌, ⊎_elim, ℕ, Bool, cond, Some, None, refl, sym, ap, ◌∙◌}
use Rattle.std.specs.Prelude.{Contains}
use Rattle.std.proofs.lemmas.Bool.{eq-eqb}
use Rattle.r4_base.specs.Tree.{Store}
use Rattle.r4_base.specs.Value.{Content, Value}
use Rattle.r4_placed.specs.r4_cell.Seen.{CellSeen}
use Rattle.r4_content.specs.Locality.{Meaning}
use Rattle.r4_content.specs.declared.command.Command.{Command}
use Rattle.r4_content.specs.declared.reply.Reply.{Reply}
use Rattle.r4_placed.specs.r4_sets.Atoms.{sealed, without}
use Rattle.r4_placed.specs.r4_sets.Session.{Session, Sets}
use Rattle.r4_placed.proofs.r4_sets.Gathered.{sealed_sets}
use Rattle.r4_placed.proofs.r4_sets.Renamed.{renamed_sets}
use Rattle.r4_placed.specs.r4_sealed.Commits.{spot}
use Rattle.r4_flushed.specs.Flushed.{IsSealedTo, sealed_to}
use Rattle.r4_placed.specs.Flushing.{Flushing, IsAtRest, moves, name_after}
use Rattle.r4_placed.proofs.Planning.{below_or, from_pairs, old_spot}
use Rattle.r4_placed.proofs.Swapped.{goes}

none_without : (a : ℕ) → without a (Some a) ≡ None
none_without a = ap (λ (t : Bool). cond t None (Some a)) (eq-eqb a a refl)

module _ (n : ℕ) (work : Flushing) (m : Content) (r : IsAtRest n work m)
    (c : Session) (u v : Store Value) (to : IsSealedTo c work r.content.store u v) where
  name_free : (x : CellSeen) → Contains work.cells x → without work.atom.0 (c.owner x.id) ≡ None
  name_free x one = ap (without work.atom.0) (to.flushed.owned x one).0 ∙ none_without work.atom.0

  block_free : (x : CellSeen) → Contains work.cells x → without work.atom.0 (c.owner (spot work.answers x)) ≡ None
  block_free x one = ⊎_elim
      (λ low. ap (λ (i : ℕ). without work.atom.0 (c.owner i)) (old_spot n work m r x one low) ∙ name_free x one)
      (λ high. ap (without work.atom.0) (to.unowned x one high))
      (below_or x.id)

  same_owner : (i : ℕ) → without work.atom.0 (c.owner (name_after work i)) ≡ without work.atom.0 (c.owner i)
  same_owner i = ⊎_elim
      (λ stays. ap (λ (j : ℕ). without work.atom.0 (c.owner j)) stays)
      (λ (q, one, at).
      let (x, in_cells, is) = from_pairs work.answers work.cells q one in
      let name : q.0 ≡ x.id = ap (λ (p : ℕ × ℕ). p.0) is in
      let block : q.1 ≡ spot work.answers x = ap (λ (p : ℕ × ℕ). p.1) is in
      ⊎_elim
      (λ (here, there). ap (λ (j : ℕ). without work.atom.0 (c.owner j)) (there ∙ block) ∙ block_free x in_cells
      ∙ sym (ap (λ (j : ℕ). without work.atom.0 (c.owner j)) (here ∙ name) ∙ name_free x in_cells))
      (λ (here, there). ap (λ (j : ℕ). without work.atom.0 (c.owner j)) (there ∙ name) ∙ name_free x in_cells
      ∙ sym (ap (λ (j : ℕ). without work.atom.0 (c.owner j)) (here ∙ block) ∙ block_free x in_cells))
      at)
      (goes (moves work.answers work.cells) i)

  pub sets_sealed : (w : Meaning Command Reply) → Sets w c → Sets w (sealed_to c work u v)
  sets_sealed w sets = renamed_sets w (sealed c work.atom) (sealed_sets w c sets work.atom) (name_after work)
      (name_after work) u v (record {
        in_under = to.flushed.renaming;
        in_memory = to.memory;
        owner_to = same_owner;
        owner_from = same_owner;
        clean = to.clean;
      })
