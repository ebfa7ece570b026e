-- Data blocks that stand with the bytes that edits set in them.
use Rattle.std.proofs.Common.{◌≡◌, ◌↔◌, inl, inr, ℕ, ◌+◌, ◌-◌, Bool, true, false, List, [], ◌∷◌, ◌++◌, map, get_or, refl, sym, ap, subst, ◌∙◌, arith}
use Rattle.std.specs.Prelude.{Contains, Option, None, Some, unwrap_or, ◌&&◌}
use Rattle.std.specs.Option.{is_some, option_map}
use Rattle.std.proofs.lemmas.Bool.Decides.{nat_tests}
use Rattle.std.proofs.lemmas.Option.{same_Some}
use Rattle.r4_base.specs.Key.{rank}
use Rattle.r4_base.specs.Tree.{Root, Store}
use Rattle.r4_base.specs.Value.{Byte, Value}
use Rattle.r4_base.specs.declared.key.Key.{Key}
use Rattle.r4_twig_work.specs.r4_cell.Patch.{HaveNames}
use Rattle.r4_twig_work.specs.r4_cell.Seen.{CellSeen, node_of}
use Rattle.r4_twig_work.specs.r4_cell.declared.change.Fresh.{Fresh}
use Rattle.r4_content.specs.Edited.{Edits}
use Rattle.r4_extent_blocks.specs.Setting.{IsOverwritten, byte_set}
use Rattle.r4_twig_work.specs.r4_leaf.Units.{is_between}
use Rattle.r4_twig_work.proofs.r4_patch.Members.{cases, here, later, none}
use Rattle.r4_twig_work.specs.Renewing.{IsRenewable, IsRenewal, IsRenewed, Renewal, Renews, news_of, olds_of}
use Rattle.r4_twig_work.specs.r4_work.Order.{HasKey}
use Rattle.r4_twig_work.specs.r4_work.declared.working.WorkingSet.{WorkingSet}
use Rattle.r4_twig_work.proofs.r4_work.InPlace.{standing_is}
use Rattle.r4_extent_renew.specs.Overwriting.{AreOverwritten, AreStandingBlocks, IsStandingBlock, in_blocks, is_set_in, value_set}
use Rattle.r4_extent_renew.proofs.BlockUnits.{IsByteAt, block_units, bytes_members, cells_from, cells_to, in_one, one_in}

-- ---- each with what comes in its place

abbrev pub pairs : (olds news : List CellSeen) → List Renewal
pairs [] news = []
pairs (c ∷ cs) [] = []
pairs (c ∷ cs) (d ∷ ds) = record { old = c; new = d } ∷ pairs cs ds

pub record ArePaired (e : Edits) (olds news : List CellSeen) : Type 0 where
  pub old_are : olds ≡ olds_of (pairs olds news)
  pub new_are : news ≡ news_of (pairs olds news)
  pub each : (p : Renewal) → Contains (pairs olds news) p → Contains olds p.old × IsOverwritten e p.old p.new

pub paired : (e : Edits) (olds news : List CellSeen) → AreOverwritten e olds news → ArePaired e olds news
paired e [] news is = record { old_are = refl; new_are = is; each = λ p at. absurd (none p at) }
paired e (c ∷ cs) news (d, ds, is, one, rest) = subst (ArePaired e (c ∷ cs)) (sym is) (joined (paired e cs ds rest))
  where
    joined : ArePaired e cs ds → ArePaired e (c ∷ cs) (d ∷ ds)
    joined h = record {
      old_are = ap (λ xs. c ∷ xs) h.old_are;
      new_are = ap (λ xs. d ∷ xs) h.new_are;
      each = λ p at. elim (cases (record { old = c; new = d }) p (pairs cs ds) at) [
        | inl this ↦ (
          subst (λ (q : Renewal). Contains (c ∷ cs) q.old) (sym this) (here c cs),
          subst (λ (q : Renewal). IsOverwritten e q.old q.new) (sym this) one,
        )
        | inr more ↦ let g = h.each p more in (later c p.old cs g.0, g.1)
      ];
    }

old_of : (ps : List Renewal) (c : CellSeen) → Contains (olds_of ps) c → (p : Renewal) × (Contains ps p × (p.old ≡ c))
old_of [] c at = absurd (none c at)
old_of (p ∷ ps) c at = elim (cases p.old c (olds_of ps) at) [
  | inl is ↦ (p, (here p ps, sym is))
  | inr more ↦ let (q, (in_ps, same)) = old_of ps c more in (q, (later p q ps in_ps, same))
]

new_of : (ps : List Renewal) (c : CellSeen) → Contains (news_of ps) c → (p : Renewal) × (Contains ps p × (p.new ≡ c))
new_of [] c at = absurd (none c at)
new_of (p ∷ ps) c at = elim (cases p.new c (news_of ps) at) [
  | inl is ↦ (p, (here p ps, sym is))
  | inr more ↦ let (q, (in_ps, same)) = new_of ps c more in (q, (later p q ps in_ps, same))
]

in_olds : (ps : List Renewal) (p : Renewal) → Contains ps p → Contains (olds_of ps) p.old
in_olds [] p at = absurd (none p at)
in_olds (q ∷ ps) p at = elim (cases q p ps at) [
  | inl is ↦ subst (λ (x : Renewal). Contains (q.old ∷ olds_of ps) x.old) (sym is) (here q.old (olds_of ps))
  | inr more ↦ later q.old p.old (olds_of ps) (in_olds ps p more)
]

in_news : (ps : List Renewal) (p : Renewal) → Contains ps p → Contains (news_of ps) p.new
in_news [] p at = absurd (none p at)
in_news (q ∷ ps) p at = elim (cases q p ps at) [
  | inl is ↦ subst (λ (x : Renewal). Contains (q.new ∷ news_of ps) x.new) (sym is) (here q.new (news_of ps))
  | inr more ↦ later q.new p.new (news_of ps) (in_news ps p more)
]

both_true : (x y : Bool) → (x && y) ≡ true → (x ≡ true) × (y ≡ true)
both_true true y h = (refl, h)
both_true false y h = absurd cc

some_is : (o : Option ℕ) → is_some o ≡ true → (x : ℕ) × (o ≡ Some x)
some_is None h = absurd cc
some_is (Some x) h = (x, refl)

none_is : (o : Option ℕ) → is_some o ≡ false → o ≡ None
none_is None h = refl
none_is (Some x) h = absurd cc

module _ (e : Edits) (t : Store Value) (r : Root) (f : Fresh) (w : WorkingSet) (olds news : List CellSeen) (is : AreStandingBlocks t r f w olds) (made : AreOverwritten e olds news) where
  abbrev pub ps : List Renewal
  ps = pairs olds news

  two : ArePaired e olds news
  two = paired e olds news made

  block : (p : Renewal) → Contains (pairs olds news) p → IsStandingBlock w p.old
  block p at = is.each p.old (two.each p at).0

  renewal : (p : Renewal) → Contains (pairs olds news) p → IsRenewal p
  renewal p at =
      let o = (two.each p at).1 in
      let s = block p at in
      record {
        number = o.number;
        old_level = s.level;
        new_level = o.level;
        lo = ap (λ (k : Key). rank k) o.lo;
        hi = ap (λ (k : Key). rank k) o.hi;
        wide = s.wide;
        whole = o.whole;
      }

  pub renewable : IsRenewable t r f w olds news (pairs olds news)
  renewable = record {
    working = is.working;
    old_are = two.old_are;
    new_are = two.new_are;
    are = record {
      each = renewal;
      stand = λ p at. standing_is t r f w is.working p.old (block p at).stands;
      names = subst HaveNames two.old_are is.names;
    };
    numbers = is.numbers;
  }

  -- ---- the byte at a key of a block

  old_byte : (p : Renewal) → Contains (pairs olds news) p → (k : ℕ) (v : Value) → Contains (node_of p.old).units (k, v) ↔ IsByteAt (rank p.old.lo) p.old.block k v
  old_byte p at k v = subst (λ us. Contains us (k, v) ↔ IsByteAt (rank p.old.lo) p.old.block k v) (sym (block_units p.old (block p at).level)) (bytes_members (rank p.old.lo) p.old.block k v)

  new_byte : (p : Renewal) → Contains (pairs olds news) p → (k : ℕ) (v : Value) → Contains (node_of p.new).units (k, v) ↔ IsByteAt (rank p.new.lo) p.new.block k v
  new_byte p at k v = subst (λ us. Contains us (k, v) ↔ IsByteAt (rank p.new.lo) p.new.block k v) (sym (block_units p.new (two.each p at).1.level)) (bytes_members (rank p.new.lo) p.new.block k v)

  -- what stands in the new block is what is set, else what stood in the old one
  byte_after : (p : Renewal) → Contains (pairs olds news) p → (k : ℕ) → HasKey p.old k
      → get_or p.new.block (k - rank p.new.lo) 0 ≡ unwrap_or (byte_set e k) (get_or p.old.block (k - rank p.old.lo) 0)
  byte_after p at k (low, high) =
      let o = (two.each p at).1 in
      let s = block p at in
      let same : rank p.new.lo ≡ rank p.old.lo = ap (λ (j : Key). rank j) o.lo in
      let wide = s.wide in
      let whole = s.whole in
      let back : rank p.old.lo + (k - rank p.old.lo) ≡ k = omega (arith, low) in
      ap (λ n. get_or p.new.block (k - n) 0) same
      ∙ (o.bytes.each (k - rank p.old.lo) (omega (arith, low, high, wide, whole))
      ∙ ap (λ j. unwrap_or (byte_set e j) (get_or p.old.block (k - rank p.old.lo) 0)) back)

  -- a unit of a new block lies in the old one's range
  in_range : (p : Renewal) → Contains (pairs olds news) p → (k : ℕ) (v : Value) → IsByteAt (rank p.new.lo) p.new.block k v → HasKey p.old k
  in_range p at k v (low, rest) =
      let o = (two.each p at).1 in
      let s = block p at in
      let high = rest.0 in
      let same : rank p.new.lo ≡ rank p.old.lo = ap (λ (j : Key). rank j) o.lo in
      let wide = s.wide in
      let whole = o.whole in
      (omega (arith, low, same), omega (arith, high, same, wide, whole))

  from_range : (p : Renewal) → Contains (pairs olds news) p → (k : ℕ) (v : Value) → HasKey p.old k → v ≡ Byte (get_or p.new.block (k - rank p.new.lo) 0) → Contains (node_of p.new).units (k, v)
  from_range p at k v (low, high) says =
      let o = (two.each p at).1 in
      let s = block p at in
      let same : rank p.new.lo ≡ rank p.old.lo = ap (λ (j : Key). rank j) o.lo in
      let wide = s.wide in
      let whole = o.whole in
      (new_byte p at k v).1 (omega (arith, low, same), (omega (arith, high, same, wide, whole), says))

  on_key : (c : CellSeen) (k : ℕ) → HasKey c k → is_between (rank c.lo) (rank c.hi) k ≡ true
  on_key c k (low, high) = grind (arith, nat_tests, low, high)

  held : (k : ℕ) → in_blocks olds k ≡ true → (p : Renewal) × (Contains (pairs olds news) p × HasKey p.old k)
  held k on =
      let (c, (at, has)) = in_one olds k on in
      let (p, (in_ps, same)) = old_of (pairs olds news) c (subst (λ cs. Contains cs c) two.old_are at) in
      (p, (in_ps, subst (λ (z : CellSeen). HasKey z k) (sym same) has))

  -- a key of a block at which nothing is set
  unset : (p : Renewal) → Contains (pairs olds news) p → (k : ℕ) → HasKey p.old k → is_set_in e olds k ≡ false → byte_set e k ≡ None
  unset p at k has off =
      let on : in_blocks olds k ≡ true = one_in olds k p.old (two.each p at).0 (on_key p.old k has) in
      none_is (byte_set e k) (ap (λ (t : Bool). t && is_some (byte_set e k)) (sym on) ∙ off)

  pub sets : Renews (pairs olds news) (is_set_in e olds) (value_set e)
  sets = record {
    held = λ k on. let (p, (at, has)) = held k (both_true (in_blocks olds k) (is_some (byte_set e k)) on).0 in (p, at, has);
    there = λ k v on.
        let (inside, set) = both_true (in_blocks olds k) (is_some (byte_set e k)) on in
        let (x, set_is) = some_is (byte_set e k) set in (
          λ m.
              let (d, (at, has)) = cells_to (news_of (pairs olds news)) (k, v) m in
              let (p, (in_ps, same)) = new_of (pairs olds news) d at in
              let unit = (new_byte p in_ps k v).0 (subst (λ (z : CellSeen). Contains (node_of z).units (k, v)) (sym same) has) in
              let after = byte_after p in_ps k (in_range p in_ps k v unit) in
              ap (option_map (λ (y : ℕ). Byte y)) set_is ∙ ap Some (sym (unit.1.1 ∙ ap (λ (y : ℕ). Byte y) (after ∙ ap (λ o. unwrap_or o (get_or p.old.block (k - rank p.old.lo) 0)) set_is))),
          λ says.
              let (p, (in_ps, has)) = held k inside in
              let value : v ≡ Byte x = sym (same_Some (Byte x) v (sym (ap (option_map (λ (y : ℕ). Byte y)) set_is) ∙ says)) in
              let after = byte_after p in_ps k has in
              cells_from (news_of (pairs olds news)) (k, v) p.new (in_news (pairs olds news) p in_ps)
              (from_range p in_ps k v has (value ∙ ap (λ (y : ℕ). Byte y) (sym (after ∙ ap (λ o. unwrap_or o (get_or p.old.block (k - rank p.old.lo) 0)) set_is)))),
        );
    others = λ k v off. (
      λ m.
          let (d, (at, has)) = cells_to (news_of (pairs olds news)) (k, v) m in
          let (p, (in_ps, same)) = new_of (pairs olds news) d at in
          let unit = (new_byte p in_ps k v).0 (subst (λ (z : CellSeen). Contains (node_of z).units (k, v)) (sym same) has) in
          let range = in_range p in_ps k v unit in
          let low = range.0 in
          let high = range.1 in
          let wide = (block p in_ps).wide in
          let whole = (block p in_ps).whole in
          let after = byte_after p in_ps k range in
          cells_from (olds_of (pairs olds news)) (k, v) p.old (in_olds (pairs olds news) p in_ps)
          ((old_byte p in_ps k v).1 (
            low,
            (
              omega (arith, high, wide, whole),
              unit.1.1 ∙ ap (λ (y : ℕ). Byte y) (after ∙ ap (λ o. unwrap_or o (get_or p.old.block (k - rank p.old.lo) 0)) (unset p in_ps k range off)),
            ),
          )),
      λ m.
          let (d, (at, has)) = cells_to (olds_of (pairs olds news)) (k, v) m in
          let (p, (in_ps, same)) = old_of (pairs olds news) d at in
          let unit = (old_byte p in_ps k v).0 (subst (λ (z : CellSeen). Contains (node_of z).units (k, v)) (sym same) has) in
          let low = unit.0 in
          let high = unit.1.0 in
          let wide = (block p in_ps).wide in
          let whole = (block p in_ps).whole in
          let range : HasKey p.old k = (low, omega (arith, high, wide, whole)) in
          let after = byte_after p in_ps k range in
          cells_from (news_of (pairs olds news)) (k, v) p.new (in_news (pairs olds news) p in_ps)
          (from_range p in_ps k v range (unit.1.1 ∙ ap (λ (y : ℕ). Byte y) (sym (after ∙ ap (λ o. unwrap_or o (get_or p.old.block (k - rank p.old.lo) 0)) (unset p in_ps k range off))))),
    );
  }

-- ---- as the calls tell them

module _ (e : Edits) (t : Store Value) (r : Root) (f : Fresh) (w : WorkingSet) (blocks news olds those : List CellSeen) (olds_are : olds ≡ blocks) (those_are : those ≡ news) (made : AreOverwritten e blocks news) where
  pub may_renew : AreStandingBlocks t r f w blocks → IsRenewable t r f w olds those (pairs blocks news)
  may_renew is = subst (λ xs. IsRenewable t r f w xs those (pairs blocks news)) (sym olds_are) (subst (λ ys. IsRenewable t r f w blocks ys (pairs blocks news)) (sym those_are) (renewable e t r f w blocks news is made))

-- the same cells, as they are held otherwise
pub renewed_as : (t : Store Value) (r : Root) (f : Fresh) (w now : WorkingSet) (blocks news olds those : List CellSeen) → olds ≡ blocks → those ≡ news → IsRenewed t r f w now olds those → IsRenewed t r f w now blocks news
renewed_as t r f w now blocks news olds those olds_are those_are is =
    subst (λ xs. IsRenewed t r f w now xs news) olds_are (subst (λ ys. IsRenewed t r f w now olds ys) those_are is)

module _ {A : Type 0} (g : A → CellSeen) where
  map_behind : (xs : List A) (x : A) (ys : List CellSeen) → map g (xs ++ x ∷ []) ++ ys ≡ map g xs ++ (g x ∷ ys)
  map_behind [] x ys = refl
  map_behind (z ∷ xs) x ys = ap (λ rest. g z ∷ rest) (map_behind xs x ys)

  -- a cell that was put behind others, and more behind it
  pub more_behind : (was mid : List A) (now : List CellSeen) (x : A) (ys : List CellSeen) → mid ≡ was ++ x ∷ [] → now ≡ map g mid ++ ys → now ≡ map g was ++ (g x ∷ ys)
  more_behind was mid now x ys mid_is now_is = now_is ∙ (ap (λ zs. map g zs ++ ys) mid_is ∙ map_behind was x ys)
