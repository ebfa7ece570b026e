-- The start of free space, set anew in a node without items.
use Rattle.std.proofs.Common.{◌≡◌, ℕ, ◌+◌, ◌<◌, ◌≤◌, List, length, get_or, refl, sym, ap, ◌∙◌, arith}
use Rattle.std.proofs.lemmas.Bool.{eq-eqb}
use Rattle.std.proofs.lemmas.List.{same_lists}
use Rattle.r4_base.specs.Bytes.{number_at, number_bytes, overwrite}
use Rattle.r4_base.specs.Node.{count_of, start_of, free_of, items_of}
use Rattle.r4_base.proofs.Numbers.{length-overwrite, length-number_bytes, get_or-overwrite_below, get_or-overwrite_above, number_at-overwrite, number_at-overwrite_after}
use Rattle.r4_node40.specs.Laid.{IsLaid, room_of}
use Rattle.r4_node40.specs.Splice.{Settles}
use Rattle.r4_node40.proofs.Laid.{length-items_of}
use Rattle.r4_node40.proofs.Headers.{same_head}

room_of_none : (b : List ℕ) → count_of b ≡ 0 → room_of b ≡ 4068
unfolding room_of
room_of_none b none = let t = eq-eqb (count_of b) 0 none in rw t refl

pub anew : (b b1 c : List ℕ) → IsLaid b → count_of b ≡ 0 → b1 ≡ overwrite 4 (number_bytes 2 4068) b → c ≡ overwrite 6 (number_bytes 2 28) b1 → Settles b c
anew b b1 c laid none e1 e2 =
    let n1 = length-number_bytes 2 4068 in
    let n2 = length-number_bytes 2 28 in
    let fit1 : 4 + length (number_bytes 2 4068) ≤ length b = omega (arith, laid.whole) in
    let w1 : length b1 ≡ 4096 = ap length e1 ∙ length-overwrite 4 (number_bytes 2 4068) b fit1 ∙ laid.whole in
    let fit2 : 6 + length (number_bytes 2 28) ≤ length b1 = omega arith in
    let w2 : length c ≡ 4096 = ap length e2 ∙ length-overwrite 6 (number_bytes 2 28) b1 fit2 ∙ w1 in
    let low = λ (p : ℕ) (h : p < 4). ap (λ (xs : List ℕ). get_or xs p 0) e2 ∙ get_or-overwrite_below 6 (number_bytes 2 28) b1 p 0 fit2 (omega arith) ∙ ap (λ (xs : List ℕ). get_or xs p 0) e1 ∙ get_or-overwrite_below 4 (number_bytes 2 4068) b p 0 fit1 h in
    let high = λ (p : ℕ) (h : 8 ≤ p). ap (λ (xs : List ℕ). get_or xs p 0) e2 ∙ get_or-overwrite_above 6 (number_bytes 2 28) b1 p 0 fit2 (omega arith) ∙ ap (λ (xs : List ℕ). get_or xs p 0) e1 ∙ get_or-overwrite_above 4 (number_bytes 2 4068) b p 0 fit1 (omega arith) in
    let count : count_of c ≡ count_of b = ap (number_at 2 2) e2 ∙ number_at-overwrite_after 2 2 6 (number_bytes 2 28) b1 fit2 (omega arith) ∙ ap (number_at 2 2) e1 ∙ number_at-overwrite_after 2 2 4 (number_bytes 2 4068) b fit1 (omega arith) in
    let free : free_of c ≡ 4068 = ap (number_at 2 4) e2 ∙ number_at-overwrite_after 2 4 6 (number_bytes 2 28) b1 fit2 (omega arith) ∙ ap (number_at 2 4) e1 ∙ number_at-overwrite 2 4 4068 b (omega arith) (omega arith) in
    let start : start_of c ≡ 28 = ap (number_at 2 6) e2 ∙ number_at-overwrite 2 6 28 b1 (omega arith) (omega arith) in
    let old_long = length-items_of b in
    let new_long = length-items_of c in
    record {
      laid = record { whole = w2; low = omega arith; sum = omega arith; placed = λ k lt. absurd (omega arith) };
      settled = λ z. start;
      count = count;
      items = same_lists (items_of c) (items_of b) (omega arith) (λ k d lt. absurd (omega arith));
      head = same_head b c (λ p lt. low p (omega arith)) (λ p ge lt. high p ge);
      room = room_of_none c (count ∙ none) ∙ sym (room_of_none b none);
      headers = λ k lt. absurd (omega arith);
      behind = λ p ge. high p ge;
    }
