-- A slum that is packed, and the cell above it as a row.
use Rattle.std.proofs.Common.{◌≡◌, inl, inr, ℕ, ◌<◌, List, [], ◌∷◌, sym, subst, ◌∙◌, arith}
use Rattle.std.specs.Prelude.{◌↔◌, ◌⊎◌, Contains}
use Rattle.std.proofs.lemmas.List.{append-nil}
use Rattle.r4_base.specs.Key.{rank}
use Rattle.r4_base.specs.Tree.{Name, Store}
use Rattle.r4_base.specs.Value.{Value}
use Rattle.r4_cell.specs.Seen.{CellSeen, node_of}
use Rattle.r4_path.specs.Steps.{Follow, IsNameOf}
use Rattle.r4_rows.specs.Slum.{IsPackedSlum, IsSqueezed}
use Rattle.r4_rows.proofs.Lists.{naming_one, one_naming}

-- where cells beside each other end, they end in every reading
same_end : (l m a b x y : ℕ) (c : CellSeen) (cells : List CellSeen) → Follow l a b (c ∷ cells)
    → Follow m x y (c ∷ cells)
    → (l ≡ m) × (a ≡ x) × (b ≡ y)
same_end l m a b x y c [] (lc, at, less, end) (mc, ax, lx, ey) = (sym lc ∙ mc, sym at ∙ ax, sym end ∙ ey)
same_end l m a b x y c (d ∷ cells) (lc, at, less, rest) (mc, ax, lx, more) =
    let (e, f, g) = same_end l m (rank c.hi) b (rank c.hi) y d cells rest more in
    (e, sym at ∙ ax, g)

follow_as : (l m a b x y : ℕ) (cells : List CellSeen) → l ≡ m → a ≡ x → b ≡ y → Follow l a b cells → Follow m x y cells
follow_as l m a b x y cells el ea eb f =
    subst (λ k. Follow k x y cells) el (subst (λ k. Follow l k y cells) ea (subst (λ k. Follow l a k cells) eb f))

same_range : (l m a b x y : ℕ) (slum cells : List CellSeen) → a < b → Follow l a b slum → Follow l a b cells
    → Follow m x y slum → Follow m x y cells
same_range l m a b x y [] cells some f g h = absurd (omega (arith, some, f))
same_range l m a b x y (c ∷ slum) cells some f g h =
    let (el, ea, eb) = same_end l m a b x y c slum f h in
    follow_as l m a b x y cells el ea eb g

module _ (t : Store Value) (slum cells : List CellSeen) (parent over : CellSeen)
    (is : IsPackedSlum t slum parent cells over) where
  pointers : (n : Name) → Contains (node_of over).names n
      ↔ ((Contains (node_of parent).names n × (IsNameOf slum n → ⊥)) ⊎ IsNameOf cells n)
  pointers n = (
    λ h. elim ((is.row.names n).0 (one_naming over n h)) [
      | inl stays ↦ inl (naming_one parent n stays.0, stays.1)
      | inr comes ↦ inr comes
    ],
    λ h. naming_one over n ((is.row.names n).1 (elim h [
      | inl stays ↦ inl (one_naming parent n stays.0, stays.1)
      | inr comes ↦ inr comes
    ])),
  )

  pub packed_slum : IsSqueezed slum parent cells over
  packed_slum =
      let (pl, pat, pless, pend) = is.row.were in
      let (ol, oat, oless, oend) = is.row.are in
      record {
        ids = is.ids;
        ranges = λ m x y f. same_range is.level m is.from is.to x y slum cells is.some is.were is.are f;
        units = is.units;
        names = is.names;
        nodes = is.nodes;
        id = is.id;
        level = ol ∙ sym pl;
        lo = oat ∙ sym pat;
        hi = oend ∙ sym pend;
        pointers = pointers;
        own = sym (append-nil (node_of over).units) ∙ (is.own ∙ append-nil (node_of parent).units);
      }
