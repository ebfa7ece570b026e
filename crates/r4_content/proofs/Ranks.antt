-- Keys of stat data, of bodies and of entries are told apart by their ranks.
use Rattle.std.specs.Prelude.{◌≡◌, ℕ, ◌+◌, ◌-◌, ◌*◌, ◌^◌, ◌<◌, ◌≤◌, List, Bool, true, false, ◌&&◌, ◌==◌, nat_le, nat_lt, slice_index, All}
use Rattle.std.proofs.Common.{arith, lit<, refl, sym, ap, ◌∙◌}
use Rattle.std.proofs.lemmas.Bool.{and_from, and_parts, eq-eqb, eqb-true, leb-true, ltb-true}
use Rattle.r4_base.specs.Key.{IsKey, body_key, rank, stat_key}
use Rattle.r4_base.specs.Name.{key_of_name}
use Rattle.r4_base.specs.Volume.{IsObject, byte_rank, root_object, stat_rank}
use Rattle.r4_base.specs.declared.key.Key.{Key}
use Rattle.r4_base.specs.declared.items.Target.{Target}
use Rattle.r4_base.specs.declared.things.Oid.{Oid}
use Rattle.r4_base.proofs.Keys.{equal, is_key}
use Rattle.r4_base.proofs.Names.{bytes_of, key_fits}
use Rattle.r4_content.specs.Edited.{is_between}
use Rattle.r4_content.specs.Objects.{entry_rank, is_same_target}

pub stat_fits : (o : Target) → IsObject o → IsKey (stat_key o.locality o.ordering o.oid)
stat_fits o h = is_key _ refl (omega arith) h.1 h.2 (lit< tt)

pub body_fits : (o : Target) (x : ℕ) → IsObject o → x < 2 ^ 64 → IsKey (body_key o.locality o.ordering o.oid x)
body_fits o x h lt = is_key _ refl (omega arith) h.1 h.2 lt

first : (a b : Key) → a ≡ b → slice_index a.el 0 ≡ slice_index b.el 0
first a b e = ap (λ (k : Key). slice_index k.el 0) e

pub stat_not_byte : (u t : Target) (x : ℕ) → IsObject u → IsObject t → x < 2 ^ 64 → stat_rank u ≡ byte_rank t x → ⊥
stat_not_byte u t x hu ht lt e =
    let same : u.locality * 16 + 1 ≡ t.locality * 16 + 4 = first _ _ (equal _ _ (stat_fits u hu) (body_fits t x ht lt) e) in
    omega arith

pub name_fits : (d : Target) (n : List ℕ) → d.oid.0 < 2 ^ 60 → All (λ x. x < 256) n → IsKey (key_of_name d.oid.0 n)
name_fits d n small bytes = key_fits d.oid.0 n small (bytes_of n bytes)

pub first_of_name : (dir : ℕ) (n : List ℕ) → slice_index (key_of_name dir n).el 0 ≡ dir * 16
unfolding key_of_name
first_of_name dir n = refl

pub entry_not_byte : (d t : Target) (n : List ℕ) (x : ℕ) → d.oid.0 < 2 ^ 60 → All (λ y. y < 256) n → IsObject t → x < 2 ^ 64 → entry_rank d n ≡ byte_rank t x → ⊥
entry_not_byte d t n x small bytes ht lt e =
    let same : d.oid.0 * 16 ≡ t.locality * 16 + 4 = sym (first_of_name d.oid.0 n) ∙ first _ _ (equal _ _ (name_fits d n small bytes) (body_fits t x ht lt) e) in
    omega arith

pub entry_not_stat : (d u : Target) (n : List ℕ) → d.oid.0 < 2 ^ 60 → All (λ y. y < 256) n → IsObject u → entry_rank d n ≡ stat_rank u → ⊥
entry_not_stat d u n small bytes hu e =
    let same : d.oid.0 * 16 ≡ u.locality * 16 + 1 = sym (first_of_name d.oid.0 n) ∙ first _ _ (equal _ _ (name_fits d n small bytes) (stat_fits u hu) e) in
    omega arith

-- ---- objects

same_oid : (a b : Oid) → a.0 ≡ b.0 → a ≡ b
same_oid a b e i = record { 0 = e i }

pub same_target : (t u : Target) → t.locality ≡ u.locality → t.ordering ≡ u.ordering → t.oid.0 ≡ u.oid.0 → t ≡ u
same_target t u a b c i = record { locality = a i; ordering = b i; oid = same_oid t.oid u.oid c i }

pub told_same : (t u : Target) → is_same_target t u ≡ true → t ≡ u
told_same t u e =
    let h = and_parts (t.locality == u.locality && t.ordering == u.ordering) (t.oid.0 == u.oid.0) e in
    let g = and_parts (t.locality == u.locality) (t.ordering == u.ordering) h.0 in
    same_target t u (eqb-true _ _ g.0) (eqb-true _ _ g.1) (eqb-true _ _ h.1)

pub same_itself : (t : Target) → is_same_target t t ≡ true
same_itself t =
    let first = and_from (t.locality == t.locality) (t.ordering == t.ordering) (eq-eqb _ _ refl) (eq-eqb _ _ refl) in
    and_from (t.locality == t.locality && t.ordering == t.ordering) (t.oid.0 == t.oid.0) first (eq-eqb _ _ refl)

pub same_stat : (t u : Target) → IsObject t → IsObject u → stat_rank t ≡ stat_rank u → t ≡ u
same_stat t u ht hu e =
    let keys = equal _ _ (stat_fits t ht) (stat_fits u hu) e in
    let l : t.locality * 16 + 1 ≡ u.locality * 16 + 1 = first _ _ keys in
    let o : t.ordering ≡ u.ordering = ap (λ (k : Key). slice_index k.el 1) keys in
    let i : t.oid.0 ≡ u.oid.0 = ap (λ (k : Key). slice_index k.el 2) keys in
    same_target t u (omega arith) o i

pub root_is_object : IsObject root_object
root_is_object = (lit< tt, lit< tt, lit< tt)

-- ---- the bytes of a body stand one after another

pub byte_after : (t : Target) (x y : ℕ) → byte_rank t (x + y) ≡ byte_rank t x + y
unfolding rank
byte_after t x y = omega arith

pub between_is : (from to k : ℕ) → is_between from to k ≡ true → (from ≤ k) × (k < to)
between_is from to k e = let h = and_parts (nat_le from k) (nat_lt k to) e in (leb-true _ _ h.0, ltb-true _ _ h.1)

-- a key between two of them is one of them
pub in_body : (t : Target) (from to k : ℕ) → is_between (byte_rank t from) (byte_rank t to) k ≡ true → (x : ℕ) × (k ≡ byte_rank t x) × (from ≤ x) × (x < to)
in_body t from to k e =
    let h = between_is _ _ k e in
    let start : byte_rank t (0 + from) ≡ byte_rank t 0 + from = byte_after t 0 from in
    let end : byte_rank t (0 + to) ≡ byte_rank t 0 + to = byte_after t 0 to in
    let zf : byte_rank t (0 + from) ≡ byte_rank t from = ap (byte_rank t) (omega arith) in
    let zt : byte_rank t (0 + to) ≡ byte_rank t to = ap (byte_rank t) (omega arith) in
    let x = k - byte_rank t 0 in
    let is : byte_rank t (0 + x) ≡ byte_rank t 0 + x = byte_after t 0 x in
    let zx : byte_rank t (0 + x) ≡ byte_rank t x = ap (byte_rank t) (omega arith) in
    (x, omega arith, omega arith, omega arith)

-- so a key of stat data or of an entry is none of them
pub stat_not_between : (u t : Target) (from to : ℕ) → IsObject u → IsObject t → to ≤ 2 ^ 64 → is_between (byte_rank t from) (byte_rank t to) (stat_rank u) ≡ false
stat_not_between u t from to hu ht le = told (is_between (byte_rank t from) (byte_rank t to) (stat_rank u)) refl
  where
    told : (b : Bool) → is_between (byte_rank t from) (byte_rank t to) (stat_rank u) ≡ b → b ≡ false
    told false e = refl
    told true e = let (x, is, low, high) = in_body t from to (stat_rank u) e in absurd (stat_not_byte u t x hu ht (omega arith) is)

pub entry_not_between : (d t : Target) (n : List ℕ) (from to : ℕ) → d.oid.0 < 2 ^ 60 → All (λ y. y < 256) n → IsObject t → to ≤ 2 ^ 64
    → is_between (byte_rank t from) (byte_rank t to) (entry_rank d n) ≡ false
entry_not_between d t n from to small bytes ht le = told (is_between (byte_rank t from) (byte_rank t to) (entry_rank d n)) refl
  where
    told : (b : Bool) → is_between (byte_rank t from) (byte_rank t to) (entry_rank d n) ≡ b → b ≡ false
    told false e = refl
    told true e = let (x, is, low, high) = in_body t from to (entry_rank d n) e in absurd (entry_not_byte d t n x small bytes ht (omega arith) is)

-- keys of bytes are those of one object
pub same_bytes : (t u : Target) (x y : ℕ) → IsObject t → IsObject u → x < 2 ^ 64 → y < 2 ^ 64 → byte_rank t x ≡ byte_rank u y → t ≡ u
same_bytes t u x y ht hu lx ly e =
    let keys = equal _ _ (body_fits t x ht lx) (body_fits u y hu ly) e in
    let l : t.locality * 16 + 4 ≡ u.locality * 16 + 4 = first _ _ keys in
    let o : t.ordering ≡ u.ordering = ap (λ (k : Key). slice_index k.el 1) keys in
    let i : t.oid.0 ≡ u.oid.0 = ap (λ (k : Key). slice_index k.el 2) keys in
    same_target t u (omega arith) o i
