-- Runs of bytes, one behind the other.
use Rattle.std.proofs.Common.{◌≡◌, ℕ, List, [], ◌∷◌, ◌++◌, refl, sym, ap, subst, ◌∙◌}
use Rattle.std.specs.Prelude.{None, Option, Some}
use Rattle.std.specs.List.{flat_map}
use Rattle.std.specs.Option.{option_or}
use Rattle.std.proofs.lemmas.List.{append-nil}
use Rattle.std.proofs.lemmas.List.Concat.{flat_map-append, flat_map-cons}
use Rattle.r4_content.specs.Edited.{Pairs}
use Rattle.r4_content.specs.Held.{run_pairs}
use Rattle.r4_content.specs.declared.edits.ByteRun.{ByteRun}
use Rattle.r4_extent_build.specs.r4_extent_blocks.Setting.{last_put}
use Rattle.r4_extent_build.proofs.r4_extent_blocks.Sets.{last_more}
use Rattle.r4_extent_turn.specs.Gathering.{Adds}

or_assoc : (x y z : Option ℕ) → option_or (option_or x y) z ≡ option_or x (option_or y z)
or_assoc None y z = refl
or_assoc (Some x) y z = refl

pub adds_run : (old new : List ByteRun) (r : ByteRun) (ps : Pairs) → new ≡ old ++ (r ∷ []) → run_pairs r ≡ ps → Adds old ps new
adds_run old new r ps is same k =
    let pairs : flat_map run_pairs new ≡ flat_map run_pairs old ++ ps = ap (flat_map run_pairs) is
    ∙ (flat_map-append run_pairs old (r ∷ []) ∙ ap (λ qs. flat_map run_pairs old ++ qs) (flat_map-cons run_pairs r [] ∙ (append-nil (run_pairs r) ∙ same))) in
    ap (λ qs. last_put qs k) pairs ∙ sym (last_more (flat_map run_pairs old) ps k)

pub adds_both : (old mid new : List ByteRun) (ps qs : Pairs) → Adds old ps mid → Adds mid qs new → Adds old (ps ++ qs) new
adds_both old mid new ps qs one two k =
    two k ∙ (ap (option_or (last_put qs k)) (one k)
    ∙ (sym (or_assoc (last_put qs k) (last_put ps k) (last_put (flat_map run_pairs old) k)) ∙ ap (λ (o : Option ℕ). option_or o (last_put (flat_map run_pairs old) k)) (last_more ps qs k)))

pub adds_first : {X : Type 0} (p : X → Pairs) (all : List X) (x : X) (xs : List X) → all ≡ x ∷ xs → (old mid new : List ByteRun) → Adds old (p x) mid → Adds mid (flat_map p xs) new → Adds old (flat_map p all) new
adds_first p all x xs is old mid new one two =
    subst (λ ps. Adds old ps new) (sym (ap (flat_map p) is ∙ flat_map-cons p x xs)) (adds_both old mid new (p x) (flat_map p xs) one two)
