-- A tree has one content, so an atom without cells adds nothing.
use Rattle.std.specs.Prelude.{◌≡◌, ◌+◌}
use Rattle.std.proofs.Common.{sym, ap, subst, ◌∙◌}
use Rattle.r4_base.specs.Tree.{Root, Store}
use Rattle.r4_base.specs.Value.{Content, Value, at_key}
use Rattle.r4_base.specs.Volume.{IsVisible}
use Rattle.r4_content.specs.Locality.{Meaning}
use Rattle.r4_content.specs.declared.command.Command.{Command}
use Rattle.r4_content.specs.declared.reply.Reply.{Reply}
use Rattle.r4_content.proofs.EditLaws.{same_content}
use Rattle.r4_sets.specs.r4_trace.Folds.{HasFirstReplies, after_first}
use Rattle.r4_sets.specs.r4_trace.Safe.{AddsNothing}
use Rattle.r4_sets.specs.r4_trace.Traced.{committed_in, sealed_in}
use Rattle.r4_sets.specs.Session.{IsTreeOf, Session, Sets}
use Rattle.r4_sets.proofs.Bodies.{same_option}
use Rattle.r4_sets.proofs.Cells.{back_iff, then_iff}
use Rattle.r4_sets.proofs.Gathered.{under_stands}
use Rattle.r4_sets.proofs.Goes.{one_raw}

one_visible : (raw m n : Content) → IsVisible raw m → IsVisible raw n → m ≡ n
one_visible raw m n vm vn =
    same_content m n (λ k. same_option (at_key m k) (at_key n k) (λ v. then_iff (vm k v) (back_iff (vn k v))))

pub one_content : (t : Store Value) (r q : Root) (m n : Content) → IsTreeOf t r m → IsTreeOf t q n → m ≡ n
one_content t r q m n one two =
    let same = one_raw t one.raw two.raw one.units two.units in
    one_visible two.raw m n (subst (λ x. IsVisible x m) same one.visible) two.visible

module _ (w : Meaning Command Reply) (c : Session) (sets : Sets w c) (same : c.under.cells ≡ c.base.cells)
    (one : sealed_in c.trace ≡ committed_in c.trace + 1) where
  under_is : IsTreeOf c.base.cells c.under.root (after_first w c.start c.trace (sealed_in c.trace))
  under_is =
      subst (λ t. IsTreeOf t c.under.root (after_first w c.start c.trace (sealed_in c.trace))) same
      (under_stands w c sets).is

  pub adds_nothing : AddsNothing w c.start c.trace
  adds_nothing = record {
    same =
        ap (after_first w c.start c.trace) (sym one)
        ∙ one_content c.base.cells c.under.root c.base.root (after_first w c.start c.trace (sealed_in c.trace))
        (after_first w c.start c.trace (committed_in c.trace)) under_is sets.committed.is;
    replies = subst (HasFirstReplies w c.start c.trace) one (under_stands w c sets).replies;
  }
