-- The content of the tree with one file.
use Rattle.std.specs.Prelude.{◌≡◌, ◌≢◌, ℕ, zero, suc, ◌+◌, ◌^◌, ◌<◌, ◌≤◌, cond, Contains, Bool, true, false, Some}
use Rattle.std.specs.FinMap.{empty, get-empty}
use Rattle.std.specs.Ordering.{nat_cmp}
use Rattle.std.proofs.Common.{arith, inl, inr, refl, sym, ap, subst, ◌∙◌}
use Rattle.std.proofs.Math.Decide.{ℕ_discrete, dec_le}
use Rattle.std.proofs.Math.Nat.{lt_of_not-le}
use Rattle.std.proofs.lemmas.Bool.{eq-eqb, ne_eqb}
use Rattle.std.proofs.lemmas.Option.{none-some, same_Some}
use Rattle.r4_base.specs.Key.{key_of_rank, minor_of, offset_of}
use Rattle.r4_base.specs.Tree.{Node, UnitAt}
use Rattle.r4_base.specs.Value.{Value, Stat, Byte, at_key}
use Rattle.r4_base.specs.Volume.{HasExtents, HasFiles, HasStat, HasTails, HasUnits, IsObject, IsPadding, IsVisible}
use Rattle.r4_base.specs.Volume.{KeyFits, blocks_for, byte_rank, is_directory, object_of, stat_rank}
use Rattle.r4_base.specs.declared.items.Attr.{Attr}
use Rattle.r4_base.specs.declared.items.Target.{Target}
use Rattle.r4_base.proofs.Choices.{nothing_in}
use Rattle.r4_base.proofs.FreshTree.{only}
use Rattle.r4_base.proofs.Visible.{byte_back}
use Rattle.r4_content.proofs.EditLaws.{at_insert}
use Rattle.r4_content.proofs.Ranks.{byte_after, same_stat, stat_not_byte}
use Rattle.r4_content.proofs.Shapes.{stat_back}
use Rattle.r4_patch.specs.SecondRoot.{small_root}
use Rattle.r4_sets.specs.Session.{IsTreeOf}
use Rattle.r4_sets.proofs.Carried.{byte_owner}
use Rattle.r4_sets_rows.specs.OneFile.{behind_at, body_at, file_content, file_store, file_with, left_leaf, middle_cell}
use Rattle.r4_sets_rows.specs.OneFile.{right_leaf, stat_at, the_file, zeros}
use Rattle.r4_sets_rows.proofs.FileTree.{IsOne, OfLeft, OfMiddle, OfRight, OfTwig, file_is_tree, in_zeros, left_there}
use Rattle.r4_sets_rows.proofs.FileTree.{middle, middle_there, one_cell, right_there, to_zeros}

-- ---- keys

pub is_object : IsObject the_file
is_object = (omega arith, omega arith, omega arith)

pub byte_at : (x : ℕ) → byte_rank the_file x ≡ body_at + x
byte_at x = ap (byte_rank the_file) (omega arith) ∙ byte_after the_file 0 x

stat_key_fits : (minor_of (key_of_rank stat_at) ≡ 1) × (offset_of (key_of_rank stat_at) ≡ 0)
stat_key_fits = (
  ap minor_of (stat_back the_file is_object) ∙ omega arith,
  ap offset_of (stat_back the_file is_object)
      ∙ omega arith,
)

-- ---- what stands where

pub stat_there : (size n : ℕ) → at_key (file_content size n) stat_at ≡ Some (Stat (file_with size))
unfolding file_content
stat_there size zero = at_insert empty stat_at (Stat (file_with size)) stat_at
    ∙ ap (λ b. cond b (Some (Stat (file_with size))) (at_key empty stat_at)) (eq-eqb stat_at stat_at refl)
stat_there size (suc n) =
    at_insert (file_content size n) (body_at + n) (Byte 0) stat_at
    ∙ ap (λ b. cond b (Some (Byte 0)) (at_key (file_content size n) stat_at))
    (ne_eqb stat_at (body_at + n) (λ e. let m = middle in absurd (omega (arith, e, m))))
    ∙ stat_there size n

pub byte_there : (size n x : ℕ) → x < n → at_key (file_content size n) (body_at + x) ≡ Some (Byte 0)
unfolding file_content
byte_there size zero x lt = absurd (omega (arith, lt))
byte_there size (suc n) x lt = at_insert (file_content size n) (body_at + n) (Byte 0) (body_at + x)
    ∙ elim (ℕ_discrete (body_at + x) (body_at + n)) [
      | yes e ↦ ap (λ b. cond b (Some (Byte 0)) (at_key (file_content size n) (body_at + x)))
          (eq-eqb (body_at + x) (body_at + n) e)
      | no ne ↦ ap (λ b. cond b (Some (Byte 0)) (at_key (file_content size n) (body_at + x)))
          (ne_eqb (body_at + x) (body_at + n) ne) ∙ byte_there size n x (less_by x n lt ne)
    ]
  where
    less_by : (x n : ℕ) → x < suc n → (body_at + x ≡ body_at + n → ⊥) → x < n
    less_by x n lt ne = elim (dec_le (suc x) n) [
      | yes h ↦ h
      | no past ↦ let a =
          lt_of_not-le past in absurd (ne (omega (arith, lt, a)))
    ]

-- nothing else does
pub data IsFound (size n k : ℕ) (v : Value) : Type 0 where
  AtStat : k ≡ stat_at → v ≡ Stat (file_with size) → IsFound size n k v
  AtByte : (x : ℕ) → x < n → k ≡ body_at + x → v ≡ Byte 0 → IsFound size n k v

pub found : (size n k : ℕ) (v : Value) → at_key (file_content size n) k ≡ Some v → IsFound size n k v
unfolding file_content
found size zero k v e =
    let h = sym (at_insert empty stat_at (Stat (file_with size)) k) ∙ e in
    elim (ℕ_discrete k stat_at) [
      | yes is ↦ AtStat is (sym (same_Some (Stat (file_with size)) v
          (sym (ap (λ b. cond b (Some (Stat (file_with size))) (at_key empty k)) (eq-eqb k stat_at is)) ∙ h)))
      | no ne ↦ absurd (none-some v (sym
          (ap (λ b. cond b (Some (Stat (file_with size))) (at_key empty k)) (ne_eqb k stat_at ne)
          ∙ get-empty nat_cmp k) ∙ h))
    ]
found size (suc n) k v e =
    let h = sym (at_insert (file_content size n) (body_at + n) (Byte 0) k) ∙ e in
    elim (ℕ_discrete k (body_at + n)) [
      | yes is ↦ AtByte n (omega arith) is
          (sym (same_Some (Byte 0) v (sym
          (ap (λ b. cond b (Some (Byte 0)) (at_key (file_content size n) k)) (eq-eqb k (body_at + n) is)) ∙ h)))
      | no ne ↦ grown (found size n k v
          (sym (ap (λ b. cond b (Some (Byte 0)) (at_key (file_content size n) k)) (ne_eqb k (body_at + n) ne)) ∙ h))
    ]
  where
    grown : IsFound size n k v → IsFound size (suc n) k v
    grown (AtStat a b) = AtStat a b
    grown (AtByte x lt a b) = AtByte x (omega (arith, lt)) a b

back : (size n k : ℕ) (v : Value) → IsFound size n k v → at_key (file_content size n) k ≡ Some v
back size n k v (AtStat a b) = ap (at_key (file_content size n)) a ∙ stat_there size n ∙ ap Some (sym b)
back size n k v (AtByte x lt a b) = ap (at_key (file_content size n)) a ∙ byte_there size n x lt ∙ ap Some (sym b)

-- ---- units

module _ (t : Bool) (size j : ℕ) (few : j ≤ 4096) where
  to_unit : (k : ℕ) (v : Value) → IsFound size (4096 + j) k v → UnitAt (file_store t size j) k v
  to_unit k v (AtStat a b) = (23, left_leaf size, left_there t size j few, (zero, omega arith, λ i. (sym a i, sym b i)))
  to_unit k v (AtByte x lt a b) = elim (dec_le (suc x) 4096) [
    | yes low ↦ (
      24,
      middle_cell t,
      middle_there t size j few,
      subst
          (λ (y : Value). Contains (zeros body_at 4096) (k, y)) (sym b)
          (to_zeros body_at 4096 k (omega (arith, a)) (omega (arith, a, low))),
    )
    | no past ↦ let far = lt_of_not-le past in (
      25,
      right_leaf j,
      right_there t size j few,
      subst (λ (y : Value). Contains (zeros behind_at j) (k, y)) (sym b)
          (to_zeros behind_at j k (omega (arith, a, far)) (omega (arith, a, lt))),
    )
  ]

  less : (from k : ℕ) → from ≤ k → (x : ℕ) × (k ≡ from + x)
  less from zero le = (0, omega (arith, le))
  less from (suc k) le = elim (dec_le from k) [
    | yes h ↦ let (x, e) = less from k h in (suc x, omega (arith, e))
    | no past ↦ let a = lt_of_not-le past in (0, omega (arith, a, le))
  ]

  at_zero : (from n k : ℕ) (v : Value) → body_at ≤ from → Contains (zeros from n) (k, v)
      → from + n ≤ body_at + (4096 + j) → IsFound size (4096 + j) k v
  at_zero from n k v le has fits =
      let (a, b, c) = in_zeros from n k v has in
      let (x, e) = less body_at k (omega (arith, le, a)) in
      AtByte x (omega (arith, e, b, fits)) e c

  of_cell : (k : ℕ) (v : Value) (i : ℕ) (c : Node Value) → IsOne t size j few i c → Contains c.units (k, v)
      → IsFound size (4096 + j) k v
  of_cell k v i c (OfTwig a b) has = absurd (nothing_in (k, v) (subst (λ x. Contains x.units (k, v)) b has))
  of_cell k v i c (OfLeft a b) has =
      let e = only (stat_at, Stat (file_with size)) (k, v) (subst (λ x. Contains x.units (k, v)) b has) in
      AtStat (ap (λ x. x.0) e) (ap (λ x. x.1) e)
  of_cell k v i c (OfMiddle a b) has =
      at_zero body_at 4096 k v (omega arith) (subst (λ x. Contains x.units (k, v)) b has) (omega arith)
  of_cell k v i c (OfRight a b) has =
      at_zero behind_at j k v (omega arith) (subst (λ x. Contains x.units (k, v)) b has) (omega arith)

  pub file_units : HasUnits (file_store t size j) (file_content size (4096 + j))
  file_units k v = (
    λ e. to_unit k v (found size (4096 + j) k v e),
    λ (i, c, tc, has). back size (4096 + j) k v
        (of_cell k v i c (one_cell t size j few i c tc) has),
  )

  unit_at : (k : ℕ) (v : Value) (i : ℕ) (c : Node Value) → file_store t size j i ≡ Some c → Contains c.units (k, v)
      → IsFound size (4096 + j) k v
  unit_at k v i c tc has = of_cell k v i c (one_cell t size j few i c tc) has

-- ---- files

-- stat data are those of the file
the_stat : (size n : ℕ) (o : Target) (a : Attr) → HasStat (file_content size n) o a → (o ≡ the_file)
    × (a ≡ file_with size)
the_stat size n o a h = of (found size n (stat_rank o) (Stat a) h.1)
  where
    attr_in : Value → Attr
    attr_in (Stat b) = b
    attr_in v = a

    no_byte : (Stat a ≡ Byte 0) → ⊥
    no_byte e = cc

    of : IsFound size n (stat_rank o) (Stat a) → (o ≡ the_file) × (a ≡ file_with size)
    of (AtStat is e) = (same_stat o the_file h.0 is_object is, ap attr_in e)
    of (AtByte x lt is e) = absurd (no_byte e)

pub file_stat : (size n : ℕ) → HasStat (file_content size n) the_file (file_with size)
file_stat size n = (is_object, stat_there size n)

key_fits : (size n : ℕ) → n ≤ 8192 → (k : ℕ) (v : Value) → IsFound size n k v
    → KeyFits (file_content size n) (key_of_rank k) v
key_fits size n few k v (AtStat a b) =
    subst (KeyFits (file_content size n) (key_of_rank k)) (sym b)
    (subst (λ q. (minor_of (key_of_rank q) ≡ 1) × (offset_of (key_of_rank q) ≡ 0)) (sym a) stat_key_fits)
key_fits size n few k v (AtByte x lt a b) =
    let small : x < 2 ^ 64 = omega (arith, lt, few) in
    let at : k ≡ byte_rank the_file x = a ∙ sym (byte_at x) in
    let minor : minor_of (key_of_rank (byte_rank the_file x)) ≡ 4 = ap minor_of (byte_back the_file x is_object small)
    ∙ omega arith in
    let stat : HasStat (file_content size n) (object_of (key_of_rank (byte_rank the_file x))) (file_with size) =
    subst (λ (p : Target). HasStat (file_content size n) p (file_with size))
    (sym (byte_owner the_file x is_object small)) (file_stat size n) in
    subst (KeyFits (file_content size n) (key_of_rank k)) (sym b)
    (subst (λ q. (minor_of (key_of_rank q) ≡ 4)
    × ((c : Attr) × HasStat (file_content size n) (object_of (key_of_rank q)) c × (is_directory c ≡ false)))
    (sym at) (minor, (file_with size, stat, refl)))

-- a byte at an offset
offset_in : (size n x : ℕ) (v : Value) → x < 2 ^ 64 → IsFound size n (byte_rank the_file x) v → x < n
offset_in size n x v lt (AtStat a b) = absurd (stat_not_byte the_file the_file x is_object is_object lt (sym a))
offset_in size n x v lt (AtByte y small a b) = let e = byte_at x in omega (arith, a, e, small)

module _ (size j : ℕ) (few : j ≤ 4096) where
  -- in tails no unit of the body is in another cell than a leaf, and in an extent none is in a leaf
  tails_level : (i : ℕ) (c : Node Value) (k : ℕ) (v : Value) → IsOne true size j few i c → Contains c.units (k, v)
      → c.level ≡ 1
  tails_level i c k v (OfTwig a b) has = absurd (nothing_in (k, v) (subst (λ x. Contains x.units (k, v)) b has))
  tails_level i c k v (OfLeft a b) has = ap (λ x. x.level) b
  tails_level i c k v (OfMiddle a b) has = ap (λ x. x.level) b
  tails_level i c k v (OfRight a b) has = ap (λ x. x.level) b

  pub tails_body : size ≡ 4096 + j → HasTails (file_store true size j) the_file size
  tails_body is = record {
    offsets = λ x lt. (
      λ (i, c, v, tc, low, has). let at =
          offset_in size (4096 + j) x v lt (unit_at true size j few (byte_rank the_file x) v i c tc has) in omega
          (arith, at, is),
      λ below.
          let there : at_key (file_content size (4096 + j)) (byte_rank the_file x) ≡ Some (Byte 0) =
          ap (at_key (file_content size (4096 + j))) (byte_at x)
          ∙ byte_there size (4096 + j) x (omega (arith, below, is)) in
          let (i, c, tc, has) = (file_units true size j few (byte_rank the_file x) (Byte 0)).0 there in (
            i,
            c,
            Byte 0,
            tc,
            tails_level i c (byte_rank the_file x) (Byte 0) (one_cell true size j few i c tc) has,
            has,
          ),
    );
    no_extents = λ x lt (i, c, v, tc, high, has). high
        (tails_level i c (byte_rank the_file x) v (one_cell true size j few i c tc) has);
  }

  pub tails_files : size ≡ 4096 + j → HasFiles (file_store true size j) (file_content size (4096 + j))
  tails_files is = record {
    keys = λ k v e. key_fits size (4096 + j) (omega (arith, few)) k v (found size (4096 + j) k v e);
    bodies = λ o a h file.
        let (same, e) = the_stat size (4096 + j) o a h in
        let n = ap (λ (b : Attr). b.size) e in (
          omega (arith, n, is, few),
          inl
              (subst (λ p. HasTails (file_store true size j) p a.size) (sym same)
              (subst (HasTails (file_store true size j) the_file) (sym n) (tails_body is))),
        );
    bytes = λ o a h. let (same, e) = the_stat size (4096 + j) o a h in ap (λ (b : Attr). b.bytes) e
        ∙ sym (ap (λ (b : Attr). b.size) e);
  }

module _ (size : ℕ) (some : 0 < size) (fits : size ≤ 4096) where
  no_more : 0 ≤ 4096
  no_more = omega arith

  extent_level : (i : ℕ) (c : Node Value) (k : ℕ) (v : Value) → k ≢ stat_at → IsOne false size 0 no_more i c
      → Contains c.units (k, v) → c.level ≡ 0
  extent_level i c k v ne (OfTwig a b) has = absurd (nothing_in (k, v) (subst (λ x. Contains x.units (k, v)) b has))
  extent_level i c k v ne (OfLeft a b) has =
      absurd (ne (ap (λ x. x.0) (only (stat_at, Stat (file_with size)) (k, v)
      (subst (λ x. Contains x.units (k, v)) b has))))
  extent_level i c k v ne (OfMiddle a b) has = ap (λ x. x.level) b
  extent_level i c k v ne (OfRight a b) has = let (x, y, _) =
      in_zeros behind_at 0 k v (subst (λ x. Contains x.units (k, v)) b has) in absurd (omega (arith, x, y))

  one_block : blocks_for size ≡ 1
  one_block = omega (arith, some, fits)

  not_stat : (x : ℕ) → x < 2 ^ 64 → byte_rank the_file x ≢ stat_at
  not_stat x lt e = stat_not_byte the_file the_file x is_object is_object lt (sym e)

  pub extent_body : HasExtents (file_store false size 0) the_file size
  extent_body = record {
    offsets = λ x lt. (
      λ (i, c, v, tc, high, has). let at =
          offset_in size 4096 x v lt (unit_at false size 0 no_more (byte_rank the_file x) v i c tc has) in let one =
          one_block in omega (arith, at, one),
      λ below.
          let one = one_block in
          let there : at_key (file_content size 4096) (byte_rank the_file x) ≡ Some (Byte 0) =
          ap (at_key (file_content size 4096)) (byte_at x) ∙ byte_there size 4096 x (omega (arith, below, one)) in
          let (i, c, tc, has) = (file_units false size 0 no_more (byte_rank the_file x) (Byte 0)).0 there in (
            i,
            c,
            Byte 0,
            tc,
            (λ e. let zero =
                extent_level i c (byte_rank the_file x) (Byte 0) (not_stat x lt) (one_cell false size 0 no_more i c tc)
                has in absurd (omega (arith, e, zero))),
            has,
          ),
    );
    no_tails = λ x lt (i, c, v, tc, low, has). let zero =
        extent_level i c (byte_rank the_file x) v (not_stat x lt) (one_cell false size 0 no_more i c tc) has in
        absurd (omega (arith, low, zero));
  }

  pub extent_files : HasFiles (file_store false size 0) (file_content size 4096)
  extent_files = record {
    keys = λ k v e. key_fits size 4096 (omega arith) k v (found size 4096 k v e);
    bodies = λ o a h file.
        let (same, e) = the_stat size 4096 o a h in
        let n = ap (λ (b : Attr). b.size) e in (
          omega (arith, n, fits),
          inr (subst (λ p. HasExtents (file_store false size 0) p a.size) (sym same)
              (subst (HasExtents (file_store false size 0) the_file) (sym n) extent_body)),
        );
    bytes = λ o a h. let (same, e) = the_stat size 4096 o a h in ap (λ (b : Attr). b.bytes) e
        ∙ sym (ap (λ (b : Attr). b.size) e);
  }

-- ---- what is visible

pub file_visible : (size n : ℕ) → size ≤ n → n ≤ 8192 → IsVisible (file_content size n) (file_content size size)
file_visible size n le few k v = (λ e. to (found size size k v e), λ (e, seen). from (found size n k v e) seen)
  where
    at_byte : (x : ℕ) → x < 8192 → offset_of (key_of_rank (body_at + x)) ≡ x
    at_byte x lt = ap (λ q. offset_of (key_of_rank q)) (sym (byte_at x))
        ∙ ap offset_of (byte_back the_file x is_object (omega (arith, lt)))

    owner_at : (x : ℕ) → x < 8192 → object_of (key_of_rank (body_at + x)) ≡ the_file
    owner_at x lt = ap (λ q. object_of (key_of_rank q)) (sym (byte_at x))
        ∙ byte_owner the_file x is_object (omega (arith, lt))

    not_pad : (x : ℕ) → x < size → IsPadding (file_content size n) (key_of_rank (body_at + x)) (Byte 0) → ⊥
    not_pad x lt (a, stat, past) =
        let small : x < 8192 = omega (arith, lt, le, few) in
        let e = (the_stat size n _ a stat).1 in
        let s = ap (λ (b : Attr). b.size) e in
        let o = at_byte x small in
        absurd (omega (arith, past, s, o, lt))

    to : IsFound size size k v → (at_key (file_content size n) k ≡ Some v)
        × (IsPadding (file_content size n) (key_of_rank k) v → ⊥)
    to (AtStat a b) = (back size n k v (AtStat a b), λ p. subst (IsPadding (file_content size n) (key_of_rank k)) b p)
    to (AtByte x lt a b) = (
      back size n k v (AtByte x (omega (arith, lt, le)) a b),
      λ p. not_pad x lt (subst (λ q. IsPadding (file_content size n) (key_of_rank q) (Byte 0)) a
          (subst (IsPadding (file_content size n) (key_of_rank k)) b p)),
    )

    from : IsFound size n k v → (IsPadding (file_content size n) (key_of_rank k) v → ⊥)
        → at_key (file_content size size) k ≡ Some v
    from (AtStat a b) seen = back size size k v (AtStat a b)
    from (AtByte x lt a b) seen = elim (dec_le (suc x) size) [
      | yes below ↦ back size size k v (AtByte x below a b)
      | no past ↦
          let far = lt_of_not-le past in
          let small : x < 8192 = omega (arith, lt, few) in
          let o = at_byte x small in
          let pad : IsPadding (file_content size n) (key_of_rank (body_at + x)) (Byte 0) = (
            file_with size,
            subst (λ (p : Target). HasStat (file_content size n) p (file_with size))
                (sym (owner_at x small)) (file_stat size n),
            omega (arith, far, o),
          ) in
          absurd (seen (subst (IsPadding (file_content size n) (key_of_rank k)) (sym b)
          (subst (λ q. IsPadding (file_content size n) (key_of_rank q) (Byte 0)) (sym a) pad)))
    ]

-- ---- the trees of the file

pub tails_of : (j : ℕ) → j ≤ 4096
    → IsTreeOf (file_store true (4096 + j) j) small_root (file_content (4096 + j) (4096 + j))
tails_of j few = record {
  tree = file_is_tree true (4096 + j) j few;
  raw = file_content (4096 + j) (4096 + j);
  units = file_units true (4096 + j) j few;
  files = tails_files (4096 + j) j few refl;
  visible = file_visible (4096 + j) (4096 + j) (omega arith) (omega (arith, few));
}

pub extent_of : (size : ℕ) → 0 < size → size ≤ 4096
    → IsTreeOf (file_store false size 0) small_root (file_content size size)
extent_of size some fits = record {
  tree = file_is_tree false size 0 (omega arith);
  raw = file_content size 4096;
  units = file_units false size 0 (omega arith);
  files = extent_files size some fits;
  visible = file_visible size 4096 fits (omega arith);
}
