-- Items that spell pieces, and what is said of them.
use Rattle.std.proofs.Common.{◌≡◌, inl, inr, ℕ, ◌+◌, ◌*◌, ◌^◌, ◌≤◌, Bool, true, false, List, length, refl, ap, ◌∙◌, arith}
use Rattle.std.specs.Prelude.{Some, None, ◌==◌, ◌&&◌, nat_le, if◌then◌else◌}
use Rattle.std.proofs.lemmas.Bool.{le-leb}
use Rattle.std.proofs.lemmas.Option.{same_Some}
use Rattle.r4_base.specs.Bytes.{number_at}
use Rattle.r4_base.specs.Cell.{item_body_fault, names_block}
use Rattle.r4_base.specs.Extents.{blocks_in, body_fault, pointer_of, units_of}
use Rattle.r4_base.specs.Key.{IsKey, offset_of}
use Rattle.r4_base.specs.declared.key.Key.{Key}
use Rattle.r4_branch.specs.Items.{IsSoundItem}

pub pointer_sound : (key : Key) (plugin : ℕ) (body : List ℕ) (to : ℕ) → plugin ≡ 3 → IsKey key → length body ≡ 8 → pointer_of body ≡ Some to → names_block true (2 ^ 64) (Some to) ≡ true → IsSoundItem (record { key = key; plugin = plugin; body = body })
unfolding item_body_fault
pointer_sound key plugin body to is is_key long says named =
    let a : (plugin == 0) ≡ false = ap (λ (x : ℕ). x == 0) is in
    let b : (plugin == 2) ≡ false = ap (λ (x : ℕ). x == 2) is in
    let d : (plugin == 3) ≡ true = ap (λ (x : ℕ). x == 3) is in
    let good : names_block true (2 ^ 64) (pointer_of body) ≡ true = ap (names_block true (2 ^ 64)) says ∙ named in
    record { plugin = inl is; body = rw (a, b, d, good) refl; fits = rw (a, d) refl; key = is_key; short = omega (arith, long) }

pub extent_sound : (key : Key) (plugin : ℕ) (body : List ℕ) → plugin ≡ 5 → IsKey key → body_fault true (2 ^ 64) body ≡ None → offset_of key + 4096 * blocks_in (units_of body) ≤ 2 ^ 64 → length body ≤ 4096 → IsSoundItem (record { key = key; plugin = plugin; body = body })
unfolding item_body_fault
extent_sound key plugin body is is_key good fits short =
    let a : (plugin == 0) ≡ false = ap (λ (x : ℕ). x == 0) is in
    let b : (plugin == 2) ≡ false = ap (λ (x : ℕ). x == 2) is in
    let d : (plugin == 3) ≡ false = ap (λ (x : ℕ). x == 3) is in
    let e : (plugin == 5) ≡ true = ap (λ (x : ℕ). x == 5) is in
    let far : nat_le (offset_of key + 4096 * blocks_in (units_of body)) (2 ^ 64) ≡ true = le-leb _ _ fits in
    record { plugin = inr is; body = rw (a, b, d, e, good) refl; fits = rw (a, d, b, e) far; key = is_key; short = short }

-- the number that a pointer's body spells
pub pointer_number : (s : List ℕ) (to : ℕ) → pointer_of s ≡ Some to → number_at 8 0 s ≡ to
unfolding pointer_of
pointer_number s to e = by_test (length s == 8 && nat_le 22 (number_at 8 0 s)) e
  where
    by_test : (t : Bool) → (if t then Some (number_at 8 0 s) else None) ≡ Some to → number_at 8 0 s ≡ to
    by_test true h = same_Some (number_at 8 0 s) to h
    by_test false h = absurd cc
