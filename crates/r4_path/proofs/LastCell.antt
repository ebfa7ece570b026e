-- What is said of a path's cells from the last one up, where the path is given from the top down.
use Rattle.std.proofs.Common.{ap, ◌∙◌, ◌≡◌, ◌≢◌, ◌-◌, ◌≤◌, List, [], ◌∷◌, length, map, take, get_or, sym, subst, arith}
use Rattle.std.specs.Prelude.{reverse}
use Rattle.std.proofs.lemmas.List.{get_or-take, length-take}
use Rattle.r4_patch.specs.r4_cell.Seen.{CellSeen}
use Rattle.r4_path.proofs.Upwards.{last_first}

module _ {A : Type 0} (h : A → CellSeen) (P : List CellSeen → Type 0) (never : P [] → ⊥) where
  pub up_some : (path : List A) → P (reverse (map h path)) → length path ≢ 0
  up_some [] p = absurd (never p)
  up_some (x ∷ path) p = λ e. omega (arith, e)

  pub up_last : (path : List A) (x : A) → x ≡ get_or path (length path - 1) x → P (reverse (map h path))
      → P (h x ∷ reverse (map h (take (length path - 1) path)))
  up_last path x last p = subst P (last_first h path x (up_some path p) last) p

pub last_up : {A : Type 0} (h : A → CellSeen) (P : List CellSeen → Type 0) (path : List A) (x : A) → length path ≢ 0
    → x ≡ get_or path (length path - 1) x → P (h x ∷ reverse (map h (take (length path - 1) path))) → P (reverse (map h path))
last_up h P path x some last p = subst P (sym (last_first h path x some last)) p

-- ---- the last but one

module _ {A : Type 0} (h : A → CellSeen) (path : List A) (x y : A) (last : x ≡ get_or path (length path - 1) x)
    (next : y ≡ get_or path (length path - 1 - 1) y) where
  pub above_last : 2 ≤ length path → y ≡ get_or (take (length path - 1) path) (length (take (length path - 1) path) - 1) y
  above_last two =
      let long = length-take (length path - 1) path in
      let at : length (take (length path - 1) path) - 1 ≡ length path - 1 - 1 = omega (arith, long, two) in
      next ∙ (sym (get_or-take (length path - 1) path (length path - 1 - 1) y (omega (arith, two))) ∙ ap (λ k. get_or (take (length path - 1) path) k y) (sym at))
