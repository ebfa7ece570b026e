-- Cells of which a test holds.
use Rattle.std.proofs.Common.{◌≡◌, ◌≢◌, inl, inr, Bool, true, false, List, [], ◌∷◌, refl, sym, ap, subst, ◌∙◌}
use Rattle.std.specs.Prelude.{Contains, if◌then◌else◌}
use Rattle.std.specs.List.{filter}
use Rattle.r4_build.proofs.r4_measure.r4_patch.Members.{Distinct, cases, here, later, none}
use Rattle.r4_build.specs.r4_measure.r4_cell.Seen.{CellSeen}

pass_one : (v : Bool) (p : CellSeen → Bool) (x y : CellSeen) (xs rest : List CellSeen) → p x ≡ v → (Contains rest y → Contains xs y × (p y ≡ true)) → Contains (if v then x ∷ rest else rest) y → Contains (x ∷ xs) y × (p y ≡ true)
pass_one true p x y xs rest is more at = elim (cases x y rest at) [
  | inl same ↦ (subst (Contains (x ∷ xs)) (sym same) (here x xs), ap p same ∙ is)
  | inr m ↦ let (a, b) = more m in (later x y xs a, b)
]
pass_one false p x y xs rest is more at = let (a, b) = more at in (later x y xs a, b)

pub picked : (p : CellSeen → Bool) (xs : List CellSeen) (y : CellSeen) → Contains (filter p xs) y → Contains xs y × (p y ≡ true)
picked p [] y at = absurd (none y at)
picked p (x ∷ xs) y at = pass_one (p x) p x y xs (filter p xs) refl (picked p xs y) at

apart_one : (v : Bool) (x : CellSeen) (xs rest : List CellSeen) → ((y : CellSeen) → Contains xs y → x.id ≢ y.id) → ((y : CellSeen) → Contains rest y → Contains xs y) → Distinct rest → Distinct (if v then x ∷ rest else rest)
apart_one true x xs rest first among apart = (λ y m. first y (among y m), apart)
apart_one false x xs rest first among apart = apart

pub picked_apart : (p : CellSeen → Bool) (xs : List CellSeen) → Distinct xs → Distinct (filter p xs)
picked_apart p [] apart = tt
picked_apart p (x ∷ xs) (first, apart) = apart_one (p x) x xs (filter p xs) first (λ y m. (picked p xs y m).0) (picked_apart p xs apart)

-- and back: one of which it holds is among them
keep_one : (v : Bool) (p : CellSeen → Bool) (x y : CellSeen) (xs rest : List CellSeen) → p x ≡ v → p y ≡ true → (Contains xs y → Contains rest y) → Contains (x ∷ xs) y → Contains (if v then x ∷ rest else rest) y
keep_one true p x y xs rest is on more at = elim (cases x y xs at) [
  | inl same ↦ subst (Contains (x ∷ rest)) (sym same) (here x rest)
  | inr m ↦ later x y rest (more m)
]
keep_one false p x y xs rest is on more at = elim (cases x y xs at) [
  | inl same ↦ let bad : true ≡ false = sym on ∙ (ap p same ∙ is) in absurd cc
  | inr m ↦ more m
]

pub kept_in : (p : CellSeen → Bool) (xs : List CellSeen) (y : CellSeen) → p y ≡ true → Contains xs y → Contains (filter p xs) y
kept_in p [] y on at = absurd (none y at)
kept_in p (x ∷ xs) y on at = keep_one (p x) p x y xs (filter p xs) refl on (kept_in p xs y on) at
