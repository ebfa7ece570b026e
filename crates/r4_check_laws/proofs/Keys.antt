-- Keys of stat data and of bodies, by their objects.
use Rattle.std.proofs.Common.{◌≡◌, ℕ, ◌+◌, ◌*◌, ◌/◌, ◌%◌, ◌^◌, ◌<◌, List, [], ◌∷◌, length, get_or, refl, sym, ap, ◌∙◌, arith}
use Rattle.std.specs.Prelude.{slice_index}
use Rattle.r4_base.proofs.Keys.{equal, is_key}
use Rattle.r4_base.specs.Key.{IsKey, body_key, key_of_rank, minor_of, offset_of, rank, stat_key}
use Rattle.r4_base.specs.Volume.{IsObject, byte_rank, object_of, stat_rank}
use Rattle.r4_base.specs.declared.key.Key.{Key}
use Rattle.r4_base.specs.declared.items.Target.{Target}

parts : (a b c d : ℕ) → b < 2 ^ 64 → c < 2 ^ 64 → d < 2 ^ 64 → let r = a * 2 ^ 192 + (b * 2 ^ 128 + (c * 2 ^ 64 + d)) in (r / 2 ^ 192 ≡ a) × (r / 2 ^ 128 % 2 ^ 64 ≡ b) × (r / 2 ^ 64 % 2 ^ 64 ≡ c) × (r % 2 ^ 64 ≡ d)
parts a b c d lb lc ld = (omega (arith, lb, lc, ld), omega (arith, lb, lc, ld), omega (arith, lb, lc, ld), omega (arith, lb, lc, ld))

list_again : (xs : List ℕ) → length xs ≡ 4 → ((i : ℕ) → get_or xs i 0 < 2 ^ 64) → let k : Key = record { el = xs } in key_of_rank (rank k) ≡ k
unfolding key_of_rank rank
list_again (a ∷ b ∷ c ∷ d ∷ []) e h = let p = parts a b c d (h 1) (h 2) (h 3) in rw (p.0, p.1, p.2, p.3) refl
list_again _ e h = absurd (omega arith)

-- a key comes back from its rank
pub key_again : (k : Key) → IsKey k → key_of_rank (rank k) ≡ k
key_again k is = list_again k.el is.four is.small

four_are : (xs : List ℕ) → length xs ≡ 4 → let k : Key = record { el = xs } in k ≡ record { el = get_or xs 0 0 ∷ get_or xs 1 0 ∷ get_or xs 2 0 ∷ get_or xs 3 0 ∷ [] }
four_are (a ∷ b ∷ c ∷ d ∷ []) e = refl
four_are _ e = absurd (omega arith)

four : (k : Key) → IsKey k → k ≡ record { el = slice_index k.el 0 ∷ slice_index k.el 1 ∷ slice_index k.el 2 ∷ slice_index k.el 3 ∷ [] }
four k is = four_are k.el is.four

made : (a b c d : ℕ) → Key
made a b c d = record { el = a ∷ b ∷ c ∷ d ∷ [] }

-- a key of an object has four numbers
pub target_key : (o : Target) → IsObject o → IsKey (stat_key o.locality o.ordering o.oid)
target_key o is = let a = is.0 in is_key (stat_key o.locality o.ordering o.oid) refl (omega (arith, a)) is.1 is.2 (omega arith)

pub byte_key : (o : Target) (y : ℕ) → IsObject o → y < 2 ^ 64 → IsKey (body_key o.locality o.ordering o.oid y)
byte_key o y is lt = let a = is.0 in is_key (body_key o.locality o.ordering o.oid y) refl (omega (arith, a)) is.1 is.2 lt

-- the object of a key can be one
pub is_object : (k : Key) → IsKey k → IsObject (object_of k)
is_object k is = let a = is.small 0 in (omega (arith, a), is.small 1, is.small 2)

-- a stat key is that of its object
pub stat_key_is : (k : Key) → IsKey k → minor_of k ≡ 1 → offset_of k ≡ 0 → let o = object_of k in k ≡ stat_key o.locality o.ordering o.oid
unfolding made
stat_key_is k is minor offset =
    let first : slice_index k.el 0 ≡ slice_index k.el 0 / 16 * 16 + 1 = omega (arith, minor) in
    four k is ∙ ap (λ (a : ℕ). made a (slice_index k.el 1) (slice_index k.el 2) (slice_index k.el 3)) first
    ∙ ap (λ (d : ℕ). made (slice_index k.el 0 / 16 * 16 + 1) (slice_index k.el 1) (slice_index k.el 2) d) offset

pub stat_object : (o : Target) → object_of (stat_key o.locality o.ordering o.oid) ≡ o
stat_object o = let e : (o.locality * 16 + 1) / 16 ≡ o.locality = omega arith in rw e refl

pub byte_object : (o : Target) (y : ℕ) → object_of (body_key o.locality o.ordering o.oid y) ≡ o
byte_object o y = let e : (o.locality * 16 + 4) / 16 ≡ o.locality = omega arith in rw e refl

-- the rank of a stat key
pub stat_rank_is : (k : Key) → IsKey k → minor_of k ≡ 1 → offset_of k ≡ 0 → rank k ≡ stat_rank (object_of k)
stat_rank_is k is minor offset = ap rank (stat_key_is k is minor offset)

-- a key of that rank is the object's
pub at_stat_rank : (k : Key) (o : Target) → IsKey k → IsObject o → rank k ≡ stat_rank o → object_of k ≡ o
at_stat_rank k o is object same = ap object_of (equal k (stat_key o.locality o.ordering o.oid) is (target_key o object) same) ∙ stat_object o

-- ---- keys within a body

rank_up : (a b c d n : ℕ) → rank (record { el = a ∷ b ∷ c ∷ (d + n) ∷ [] }) ≡ rank (record { el = a ∷ b ∷ c ∷ d ∷ [] }) + n
unfolding rank
rank_up a b c d n = omega arith

abbrev pub up_by : Key → ℕ → Key
up_by k n = record { el = slice_index k.el 0 ∷ slice_index k.el 1 ∷ slice_index k.el 2 ∷ (slice_index k.el 3 + n) ∷ [] }

up_rank : (k : Key) (n : ℕ) → IsKey k → rank (up_by k n) ≡ rank k + n
up_rank k n is = rank_up (slice_index k.el 0) (slice_index k.el 1) (slice_index k.el 2) (slice_index k.el 3) n ∙ ap (λ (j : Key). rank j + n) (sym (four k is))

-- the key of a byte of a part: the same body, so far behind
pub key_up : (k : Key) (n : ℕ) → IsKey k → offset_of k + n < 2 ^ 64 → key_of_rank (rank k + n) ≡ up_by k n
key_up k n is fits =
    let up : IsKey (up_by k n) = is_key (up_by k n) refl (is.small 0) (is.small 1) (is.small 2) fits in
    ap key_of_rank (sym (up_rank k n is)) ∙ key_again (up_by k n) up

-- the rank of a body key, by its object and offset
pub body_rank_is : (k : Key) → IsKey k → minor_of k ≡ 4 → rank k ≡ byte_rank (object_of k) (offset_of k)
unfolding made
body_rank_is k is minor =
    let first : slice_index k.el 0 ≡ slice_index k.el 0 / 16 * 16 + 4 = omega (arith, minor) in
    ap rank (four k is ∙ ap (λ (a : ℕ). made a (slice_index k.el 1) (slice_index k.el 2) (slice_index k.el 3)) first)

pub byte_rank_up : (o : Target) (y : ℕ) → byte_rank o y ≡ byte_rank o 0 + y
unfolding rank
byte_rank_up o y = omega arith
