-- The name of a key: what the code answers.
use Rattle.std.proofs.Common.{◌≡◌, ℕ, ◌<◌, ◌≤◌, true, false, ◌&&◌, eqb, List, length, None, ap, ◌∙◌}
use Rattle.std.proofs.lemmas.Bool.{and_parts, eq-eqb}
use Rattle.std.specs.List.{All}
use Rattle.std.specs.Option.{is_none}
use Rattle.r4_base.specs.declared.key.Key.{Key}
use Rattle.r4_base.specs.Key.{rank}
use Rattle.r4_base.specs.Name.{IsShortNameKey, dir_of_key, key_of_name, name_fault, short_name_in}
use Rattle.r4_base.proofs.Names.{bytes_of, is_none_none, spelled_is}

-- a key that is not that of what it spells is that of no short name
pub no_short_name : (k : Key) (bytes : List ℕ) → bytes ≡ short_name_in k → false ≡ (is_none (name_fault bytes) && eqb (rank (key_of_name (dir_of_key k) bytes)) (rank k))
    → (s : List ℕ) → All (λ x. x < 256) s → IsShortNameKey k s → ⊥
no_short_name k bytes is fails s all h =
    let same : bytes ≡ s = is ∙ spelled_is k s (bytes_of s all) h in
    let legal : name_fault bytes ≡ None = ap name_fault same ∙ h.legal in
    let key : key_of_name (dir_of_key k) bytes ≡ k = ap (key_of_name (dir_of_key k)) same ∙ h.key in
    let rank_is = eq-eqb (rank (key_of_name (dir_of_key k) bytes)) (rank k) (ap rank key) in
    let holds : false ≡ true = rw (legal, rank_is) at fails in
    cc

-- and one that is has that name
pub is_short_name : (k : Key) (bytes : List ℕ) → length bytes ≤ 23 → (is_none (name_fault bytes) && eqb (rank (key_of_name (dir_of_key k) bytes)) (rank k)) ≡ true → key_of_name (dir_of_key k) bytes ≡ k → IsShortNameKey k bytes
is_short_name k bytes short is key = record { legal = is_none_none (name_fault bytes) (and_parts (is_none (name_fault bytes)) (eqb (rank (key_of_name (dir_of_key k) bytes)) (rank k)) is).0; short = short; key = key }
