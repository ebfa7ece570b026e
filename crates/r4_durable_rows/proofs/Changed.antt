-- One transaction that changes the mode of the root directory, on the empty volume.
use Rattle.std.proofs.Common.{◌≡◌, ◌≢◌, inl, ℕ, ◌+◌, [], ◌∷◌, refl, sym, ap, ◌∙◌, arith}
use Rattle.r4_base.specs.Value.{Entry as NameEntry, Stat, at_key}
use Rattle.r4_base.specs.Volume.{empty_volume, root_attr, root_object, stat_rank}
use Rattle.r4_base.specs.declared.items.Attr.{Attr}
use Rattle.r4_base.proofs.FreshTree.{found, root_at}
use Rattle.r4_base.proofs.FreshVolume.{root_rank, same_attr}
use Rattle.r4_content.specs.Fields.{HasNumbers}
use Rattle.r4_content.specs.Locality.{commands}
use Rattle.r4_content.specs.Meaning.{after, reply}
use Rattle.r4_content.specs.Walk.{At, attr_in, walk, walk_from, walk_root}
use Rattle.r4_content.specs.declared.command.Command.TheVariants.{Chmod, Stat as Ask}
use Rattle.r4_content.specs.declared.reply.Reply.{Reply}
use Rattle.r4_content.specs.declared.reply.Reply.TheVariants.{Attr as AttrReply}
use Rattle.r4_content.proofs.Found.{at_found, stat_walks}
use Rattle.r4_content.proofs.FoundAfter.{chmod_stat}
use Rattle.r4_trace.specs.Folds.{after_first}
use Rattle.r4_trace.specs.Order.{IsOrdered}
use Rattle.r4_trace.specs.Traced.{committed_in}
use Rattle.r4_trace.specs.declared.entry.Entry.TheVariants.{Committed}
use Rattle.r4_durable_rows.specs.OneChange.{first_atom, one_change}

has_numbers : HasNumbers empty_volume
has_numbers = record {
  orderings = λ k n o at. absurd (cc ((found k (NameEntry n o) at).1));
  sizes = λ o a stat. let same : a ≡ root_attr = same_attr a root_attr (found (stat_rank o) (Stat a) stat.1).1 in
      let none : a.size ≡ 0 = ap (λ (x : Attr). x.size) same in omega (arith, none);
}

walked : walk empty_volume [] ≡ At root_object root_attr
unfolding walk_from
walked = ap (λ v. walk_root empty_volume [] (attr_in v)) (ap (at_key empty_volume) root_rank ∙ root_at)

before : (limit : ℕ) → reply limit (Ask []) empty_volume ≡ AttrReply root_attr
before limit =
    stat_walks limit empty_volume [] ∙ (at_found (walk empty_volume []) root_attr).1 (root_object, walked)

abbrev mode_of : Reply → ℕ
mode_of (AttrReply a) = a.mode
mode_of r = 0

changed : (limit : ℕ) → empty_volume ≡ after limit (Chmod [] 0o700) empty_volume → ⊥
changed limit is =
    let told = chmod_stat limit [] 0o700 empty_volume root_attr has_numbers (λ k d lt. absurd (omega arith))
    (before limit) in
    let modes = ap mode_of (sym (before limit) ∙ ap (reply limit (Ask [])) is ∙ told) in
    absurd (omega (arith, modes))

pub changes : (limit : ℕ) → after_first (commands limit) empty_volume one_change (committed_in one_change)
    ≢ after_first (commands limit) empty_volume one_change (committed_in one_change + 1)
changes limit = changed limit

pub ordered : (clock : ℕ) → IsOrdered (Committed first_atom clock ∷ one_change)
ordered clock = (
  (refl, refl, omega arith),
  tt,
  (
    (
      record { counted = (omega arith, omega arith); own = refl; unsealed = λ h. h },
      (λ t s h same. h.1 (inl same)),
      refl,
    ),
    tt,
    ((1, (inl (refl, refl), (λ e. e))), tt, ((inl (refl, refl), (λ e. e)), tt, ((refl, (λ t h. h.0)), tt, tt))),
  ),
)
