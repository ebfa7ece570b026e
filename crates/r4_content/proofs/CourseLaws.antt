-- Contents that agree where a course asks are asked the same, and end it alike.
use Rattle.std.specs.Prelude.{◌≡◌, ℕ, ◌+◌, ◌∷◌, true}
use Rattle.std.proofs.Common.{arith, refl, ap, ◌∙◌}
use Rattle.std.proofs.lemmas.Grind.{common_steps}
use Rattle.std.proofs.lemmas.Bool.{or_left, or_right}
use Rattle.r4_base.specs.Value.{Content, at_key}
use Rattle.r4_content.specs.Course.{Course, Ask, Scan, Answer, Change, of_content, ending, asked}
use Rattle.r4_content.specs.Edited.{Intervals, is_between, is_in, pairs_between, edited, changed}
use Rattle.r4_content.specs.Locality.{IsLocal, commands}
use Rattle.r4_content.specs.Meaning.{course}
use Rattle.r4_content.proofs.EditLaws.{same_pairs, edited_on, edited_off}

pub at_itself : (k : ℕ) → is_between k (k + 1) k ≡ true
at_itself k = grind (arith, common_steps)

abbrev pub AgreeOn : Intervals → Content → Content → Type 0
AgreeOn rs m n = (k : ℕ) → is_in rs k ≡ true → at_key m k ≡ at_key n k

pub same_course : (c : Course) (m n : Content) → AgreeOn (asked c (of_content m)) m n → (ending c (of_content m) ≡ ending c (of_content n)) × (asked c (of_content m) ≡ asked c (of_content n))
same_course (Ask k next) m n h =
    let e : at_key m k ≡ at_key n k = h k (or_left _ _ (at_itself k)) in
    let r = same_course (next (at_key m k)) m n (λ q i. h q (or_right _ _ i)) in
    (r.0 ∙ ap (λ v. ending (next v) (of_content n)) e, ap (λ x. (k, k + 1) ∷ x) (r.1 ∙ ap (λ v. asked (next v) (of_content n)) e))
same_course (Scan from to next) m n h =
    let e : pairs_between m from to ≡ pairs_between n from to = same_pairs m n from to (λ q i. h q (or_left _ _ i)) in
    let r = same_course (next (pairs_between m from to)) m n (λ q i. h q (or_right _ _ i)) in
    (r.0 ∙ ap (λ v. ending (next v) (of_content n)) e, ap (λ x. (from, to) ∷ x) (r.1 ∙ ap (λ v. asked (next v) (of_content n)) e))
same_course (Answer r) m n h = (refl, refl)
same_course (Change e) m n h = (refl, refl)

pub local : (limit : ℕ) → IsLocal (commands limit)
local limit = record {
  same_reads = λ x m n h. (same_course (course limit x) m n h).1;
  same_changes = λ x m n h. ap (λ e. changed e.edits) (same_course (course limit x) m n h).0;
  same_reply = λ x m n h. ap (λ e. e.reply) (same_course (course limit x) m n h).0;
  same_values = λ x m n k h i. edited_on (ending (course limit x) (of_content m)).edits m n k i ∙ ap (λ e. at_key (edited e.edits n) k) (same_course (course limit x) m n h).0;
  others = λ x m k i. edited_off (ending (course limit x) (of_content m)).edits m k i;
}
