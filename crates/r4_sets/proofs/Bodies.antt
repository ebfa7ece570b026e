-- Bodies of files: in tails alone or in extents alone.
use Rattle.std.specs.Prelude.{◌≡◌, ◌↔◌, ◌⊎◌, ℕ, ◌^◌, ◌<◌, Bool, true, false, Option, Some, None}
use Rattle.std.proofs.Common.{true≢false, arith, inl, inr, refl, sym, ap, subst, ◌∙◌}
use Rattle.std.proofs.lemmas.Option.{none-some, same_Some}
use Rattle.r4_base.specs.Key.{body_key}
use Rattle.r4_base.specs.Value.{Value, Stat, Entry, Byte, Content, at_key}
use Rattle.r4_base.specs.Tree.{Store}
use Rattle.r4_base.specs.Volume.{HasExtents, HasFiles, HasStat, HasTails, HasUnits, InExtent, InTail, IsObject, KeyFits}
use Rattle.r4_base.specs.Volume.{byte_rank, is_directory, stat_rank}
use Rattle.r4_base.specs.declared.key.Key.{Key}
use Rattle.r4_base.specs.declared.items.Attr.{Attr}
use Rattle.r4_base.specs.declared.items.Target.{Target}
use Rattle.r4_base.proofs.Visible.{byte_back, byte_object}
use Rattle.r4_sets.specs.Units.{SameUnit}
use Rattle.r4_patch.specs.Effect.{UnitIn}
use Rattle.r4_sets.proofs.Cells.{back_iff, then_iff, same_unit}
use Rattle.std.proofs.Math.Decide.{ℕ_discrete}
use Rattle.std.proofs.lemmas.Bool.{eq-eqb, eqb-true, ne_eqb}

pub same_option : (o p : Option Value) → ((v : Value) → (o ≡ Some v) ↔ (p ≡ Some v)) → o ≡ p
same_option None None h = refl
same_option (Some x) p h = sym ((h x).0 refl)
same_option None (Some x) h = (h x).1 refl

-- stores that have the same unit at a key have the same value there
pub same_at : (t u : Store Value) (r s : Content) (k : ℕ) → HasUnits t r → HasUnits u s → SameUnit t u k → at_key r k
    ≡ at_key s k
same_at t u r s k ht hu h = same_option (at_key r k) (at_key s k)
    (λ v. then_iff (ht k v) (then_iff (same_unit t u k v h) (back_iff (hu k v))))

-- a unit in a leaf, and one in another cell
tail_in : (t : Store Value) (k : ℕ) → InTail t k ↔ ((v : Value) × UnitIn t k (v, true))
tail_in t k = (
  λ (i, c, v, tc, low, has). (v, (i, c, tc, has, eq-eqb c.level 1 low)),
  λ (v, (i, c, tc, has, low)). (i, c, v, tc, eqb-true c.level 1 low, has),
)

extent_in : (t : Store Value) (k : ℕ) → InExtent t k ↔ ((v : Value) × UnitIn t k (v, false))
extent_in t k = (
  λ (i, c, v, tc, high, has). (v, (i, c, tc, has, ne_eqb c.level 1 high)),
  λ (v, (i, c, tc, has, high)). (i, c, v, tc, λ low. true≢false (sym (eq-eqb c.level 1 low) ∙ high), has),
)

same_kind : (t u : Store Value) (k : ℕ) (b : Bool) → SameUnit t u k → ((v : Value) × UnitIn t k (v, b))
    ↔ ((v : Value) × UnitIn u k (v, b))
same_kind t u k b h = (λ (v, x). (v, (h (v, b)).0 x), λ (v, x). (v, (h (v, b)).1 x))

pub same_tail : (t u : Store Value) (k : ℕ) → SameUnit t u k → InTail t k ↔ InTail u k
same_tail t u k h = then_iff (tail_in t k) (then_iff (same_kind t u k true h) (back_iff (tail_in u k)))

pub same_extent : (t u : Store Value) (k : ℕ) → SameUnit t u k → InExtent t k ↔ InExtent u k
same_extent t u k h = then_iff (extent_in t k) (then_iff (same_kind t u k false h) (back_iff (extent_in u k)))

-- a key with a value is in a tail or in an extent, and the other way round
pub in_kind : (t : Store Value) (r : Content) (k : ℕ) (v : Value) → HasUnits t r → at_key r k ≡ Some v → InTail t k
    ⊎ InExtent t k
in_kind t r k v ht e =
    let (i, c, tc, has) = (ht k v).0 e in
    elim (ℕ_discrete c.level 1) [
      | yes low ↦ inl (i, c, v, tc, low, has)
      | no high ↦ inr (i, c, v, tc, high, has)
    ]

pub has_value : (t : Store Value) (r : Content) (k : ℕ) → HasUnits t r → InTail t k ⊎ InExtent t k → (v : Value)
    × (at_key r k ≡ Some v)
has_value t r k ht (inl (i, c, v, tc, low, has)) = (v, (ht k v).1 (i, c, tc, has))
has_value t r k ht (inr (i, c, v, tc, low, has)) = (v, (ht k v).1 (i, c, tc, has))

-- the units of a body stand in the same kinds of cells
abbrev pub SameBody : (t u : Store Value) → Target → Type 0
SameBody t u o = (x : ℕ) → x < 2 ^ 64 → (InTail t (byte_rank o x) ↔ InTail u (byte_rank o x))
    × (InExtent t (byte_rank o x) ↔ InExtent u (byte_rank o x))

pub body_of_units : (t u : Store Value) (o : Target) (x : ℕ) → SameUnit t u (byte_rank o x)
    → (InTail t (byte_rank o x) ↔ InTail u (byte_rank o x)) × (InExtent t (byte_rank o x) ↔ InExtent u (byte_rank o x))
body_of_units t u o x h = (same_tail t u (byte_rank o x) h, same_extent t u (byte_rank o x) h)

pub same_body : (t u : Store Value) (o : Target) (size : ℕ) → SameBody t u o → HasTails u o size ⊎ HasExtents u o size
    → HasTails t o size ⊎ HasExtents t o size
same_body t u o size same (inl h) =
    inl (record {
      offsets = λ x lt. then_iff (same x lt).0 (h.offsets x lt);
      no_extents =
          λ x lt a. h.no_extents x lt ((same x lt).1.0 a);
    })
same_body t u o size same (inr h) =
    inr (record {
      offsets = λ x lt. then_iff (same x lt).1 (h.offsets x lt);
      no_tails =
          λ x lt a. h.no_tails x lt ((same x lt).0.0 a);
    })

-- a unit of both bodies, in the same kind of cell
abbrev pub ShownIn : (t u : Store Value) → Target → Type 0
ShownIn t u o = (x : ℕ) × (x < 2 ^ 64) × (InTail t (byte_rank o x) ⊎ InExtent t (byte_rank o x))
    × (InTail t (byte_rank o x) ↔ InTail u (byte_rank o x)) × (InExtent t (byte_rank o x) ↔ InExtent u (byte_rank o x))

no_tail_and_extent : (t u : Store Value) (o : Target) (size : ℕ) → HasTails t o size → HasExtents u o size
    → ShownIn t u o → ⊥
no_tail_and_extent t u o size h g (x, lt, inl a, tails, extents) = g.no_tails x lt (tails.0 a)
no_tail_and_extent t u o size h g (x, lt, inr a, tails, extents) = h.no_extents x lt a

no_extent_and_tail : (t u : Store Value) (o : Target) (size : ℕ) → HasExtents t o size → HasTails u o size
    → ShownIn t u o → ⊥
no_extent_and_tail t u o size h g (x, lt, inl a, tails, extents) = h.no_tails x lt a
no_extent_and_tail t u o size h g (x, lt, inr a, tails, extents) = g.no_extents x lt (extents.0 a)

-- bodies of one size, of which one unit is shown in both, stand alike
pub two_bodies : (t u : Store Value) (o : Target) (size : ℕ) → HasTails t o size ⊎ HasExtents t o size
    → HasTails u o size ⊎ HasExtents u o size → (size ≡ 0) ⊎ ShownIn t u o → SameBody t u o
two_bodies t u o size (inl h) (inl g) s x lt = (
  then_iff (h.offsets x lt) (back_iff (g.offsets x lt)),
  (λ a. absurd (h.no_extents x lt a), λ a. absurd (g.no_extents x lt a)),
)
two_bodies t u o size (inr h) (inr g) s x lt = (
  (λ a. absurd (h.no_tails x lt a), λ a. absurd (g.no_tails x lt a)),
  then_iff (h.offsets x lt)
      (back_iff (g.offsets x lt)),
)
two_bodies t u o size (inl h) (inr g) (inl e) x lt = (
  (λ a. let below = (h.offsets x lt).0 a in absurd (omega (arith, e, below)), λ a. absurd (g.no_tails x lt a)),
  (λ a. absurd (h.no_extents x lt a), λ a. let below = (g.offsets x lt).0 a in absurd (omega (arith, e, below))),
)
two_bodies t u o size (inr h) (inl g) (inl e) x lt = (
  (λ a. absurd (h.no_tails x lt a), λ a. let below = (g.offsets x lt).0 a in absurd (omega (arith, e, below))),
  (λ a. let below = (h.offsets x lt).0 a in absurd (omega (arith, e, below)), λ a. absurd (g.no_extents x lt a)),
)
two_bodies t u o size (inl h) (inr g) (inr s) x lt = absurd (no_tail_and_extent t u o size h g s)
two_bodies t u o size (inr h) (inl g) (inr s) x lt = absurd (no_extent_and_tail t u o size h g s)

-- ---- stat data

pub one_attr : (r : Content) (o : Target) (a b : Attr) → HasStat r o a → HasStat r o b → a ≡ b
one_attr r o a b h g = ap (λ (v : Value). elim v as (λ _. Attr) [ Stat y ↦ y | Entry s p ↦ a | Byte y ↦ a ])
    (same_Some (Stat a) (Stat b) (sym h.1 ∙ g.1))

pub stat_moved : (r s : Content) (o : Target) (a : Attr) → at_key r (stat_rank o) ≡ at_key s (stat_rank o)
    → HasStat r o a → HasStat s o a
stat_moved r s o a e h = (h.0, sym e ∙ h.1)

abbrev pub IsFile : Content → Target → Attr → Type 0
IsFile r o a = HasStat r o a × (is_directory a ≡ false)

pub file_or_not : (r : Content) (o : Target) → IsObject o → ((a : Attr) × IsFile r o a)
    ⊎ ((a : Attr) → IsFile r o a → ⊥)
file_or_not r o is = by_value (at_key r (stat_rank o)) refl
  where
    by_kind : (a : Attr) (b : Bool) → at_key r (stat_rank o) ≡ Some (Stat a) → is_directory a ≡ b
        → ((a : Attr) × IsFile r o a) ⊎ ((a : Attr) → IsFile r o a → ⊥)
    by_kind a false e d = inl (a, ((is, e), d))
    by_kind a true e d = inr (λ x h. let same : x ≡ a = one_attr r o x a h.0 (is, e) in let f : true ≡ false = sym d
        ∙ ap is_directory (sym same) ∙ h.1 in cc)

    by_value : (v : Option Value) → at_key r (stat_rank o) ≡ v → ((a : Attr) × IsFile r o a)
        ⊎ ((a : Attr) → IsFile r o a → ⊥)
    by_value None e = inr (λ x h. none-some (Stat x) (sym e ∙ h.0.1))
    by_value (Some (Stat a)) e = by_kind a (is_directory a) e refl
    by_value (Some (Entry s p)) e =
        inr (λ x h. let f : Entry s p ≡ Stat x = same_Some (Entry s p) (Stat x) (sym e ∙ h.0.1) in cc)
    by_value (Some (Byte y)) e = inr (λ x h. let f : Byte y ≡ Stat x =
        same_Some (Byte y) (Stat x) (sym e ∙ h.0.1) in cc)

-- at the key of a byte a byte stands, of a file
pub byte_there : (t : Store Value) (r : Content) (o : Target) (x : ℕ) (v : Value) → HasFiles t r → IsObject o
    → x < 2 ^ 64 → at_key r (byte_rank o x) ≡ Some v → (y : ℕ) × (a : Attr) × (v ≡ Byte y) × IsFile r o a
byte_there t r o x v f is lt e =
    fits v (subst (λ (k : Key). KeyFits r k v) (byte_back o x is lt) (f.keys (byte_rank o x) v e))
  where
    fits : (v : Value) → KeyFits r (body_key o.locality o.ordering o.oid x) v → (y : ℕ) × (a : Attr) × (v ≡ Byte y)
        × IsFile r o a
    fits (Byte y) (minor, (a, stat, file)) =
        (y, a, refl, (subst (λ (p : Target). HasStat r p a) (byte_object o x) stat, file))
    fits (Stat a) h = let e = h.0 in absurd (omega (arith, e))
    fits (Entry s p) h = absurd (omega (arith, h))

-- what is no file has no body
pub no_body : (t : Store Value) (r : Content) (o : Target) → HasUnits t r → HasFiles t r → IsObject o
    → ((a : Attr) → IsFile r o a → ⊥) → (x : ℕ) → x < 2 ^ 64 → InTail t (byte_rank o x) ⊎ InExtent t (byte_rank o x) → ⊥
no_body t r o ht f is none x lt h =
    let (v, e) = has_value t r (byte_rank o x) ht h in
    let (y, a, _, file) = byte_there t r o x v f is lt e in
    none a file
