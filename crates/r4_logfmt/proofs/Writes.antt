-- A record's pairs, written one after the other, and the block that they make.
use Rattle.std.proofs.Common.{◌≡◌, ℕ, ◌+◌, ◌-◌, ◌*◌, ◌<◌, ◌≤◌, List, [], ◌∷◌, ◌++◌, length, get_or, take, replicate, refl, sym, ap, ◌∙◌, arith}
use Rattle.std.specs.List.{flat_map}
use Rattle.std.proofs.lemmas.List.{take_more, length-take, flat_map_more, append_assoc, length-append, length-replicate}
use Rattle.r4_base.specs.Bytes.{number_bytes, overwrite, fields_bytes, width_of, put_all}
use Rattle.r4_base.proofs.Numbers.{overwrite_next, put_all-blank, put_all-append, length-fields_bytes}
use Rattle.r4_base.specs.Log.{Record, record_magic, record_fields, pair_fields, record_block}

width_of-append : (fs gs : List (ℕ × ℕ)) → width_of (fs ++ gs) ≡ width_of fs + width_of gs
width_of-append [] gs = omega arith
width_of-append (f ∷ fs) gs = omega (arith, width_of-append fs gs)

fields_bytes-append : (fs gs : List (ℕ × ℕ)) → fields_bytes (fs ++ gs) ≡ fields_bytes fs ++ fields_bytes gs
fields_bytes-append [] gs = refl
fields_bytes-append (f ∷ fs) gs = ap (λ (xs : List ℕ). number_bytes f.0 f.1 ++ xs) (fields_bytes-append fs gs) ∙ sym (append_assoc (number_bytes f.0 f.1) (fields_bytes fs) (fields_bytes gs))

pub width_of-pairs : (ps : List (ℕ × ℕ)) → width_of (flat_map pair_fields ps) ≡ 16 * length ps
width_of-pairs [] = omega arith
width_of-pairs (p ∷ ps) = omega (arith, width_of-pairs ps)

pub pairs_more : (ps : List (ℕ × ℕ)) (i : ℕ) (start now b1 b2 : List ℕ) → i < length ps → now ≡ put_all (flat_map pair_fields (take i ps)) 32 start
    → b1 ≡ overwrite (32 + 16 * i) (number_bytes 8 (get_or ps i (0, 0)).0) now → b2 ≡ overwrite (40 + 16 * i) (number_bytes 8 (get_or ps i (0, 0)).1) b1
    → b2 ≡ put_all (flat_map pair_fields (take (i + 1) ps)) 32 start
pairs_more ps i start now b1 b2 lt so_far e1 e2 =
    let p = get_or ps i (0, 0) in
    let front = flat_map pair_fields (take i ps) in
    let more : flat_map pair_fields (take (i + 1) ps) ≡ front ++ pair_fields p = ap (flat_map pair_fields) (take_more ps i (0, 0) lt) ∙ sym (flat_map_more pair_fields [] (take i ps) p) in
    let wide = width_of-pairs (take i ps) in
    let long : length (take i ps) ≡ i = omega (arith, length-take i ps) in
    let at : 32 + width_of front ≡ 32 + 16 * i = omega arith in
    let at' : 32 + 16 * i + 8 ≡ 40 + 16 * i = omega arith in
    let split = put_all-append front (pair_fields p) 32 start in
    rw (more, split, at, at', ← so_far, ← e1) e2

pub is_record_block : (r : Record) (b1 b2 b3 : List ℕ) → length r.pairs ≤ 254 → b1 ≡ overwrite 0 record_magic (replicate 4096 0) → b2 ≡ put_all (record_fields r) 8 b1 → b3 ≡ put_all (flat_map pair_fields r.pairs) 32 b2 → b3 ≡ record_block r
unfolding record_block
is_record_block r b1 b2 b3 few e1 e2 e3 =
    let ps = flat_map pair_fields r.pairs in
    let wide : width_of (record_fields r ++ ps) ≡ 24 + 16 * length r.pairs = omega (arith, width_of-append (record_fields r) ps, width_of-pairs r.pairs) in
    let all : b3 ≡ put_all (record_fields r ++ ps) 8 b1 = e3 ∙ ap (put_all ps 32) e2 ∙ sym (put_all-append (record_fields r) ps 8 b1) in
    let first : b1 ≡ record_magic ++ replicate 4088 0 = e1 ∙ overwrite_next 0 [] record_magic 4096 refl (omega arith) in
    let left : 4088 - width_of (record_fields r ++ ps) ≡ 4064 - 16 * length r.pairs = omega arith in
    all ∙ ap (put_all (record_fields r ++ ps) 8) first ∙ put_all-blank (record_fields r ++ ps) 8 record_magic 4088 refl (omega arith) ∙ rw (left, fields_bytes-append (record_fields r) ps) (ap (λ (xs : List ℕ). record_magic ++ xs) (append_assoc (fields_bytes (record_fields r)) (fields_bytes ps) (replicate (4064 - 16 * length r.pairs) 0)))

pub length-record_block : (r : Record) → length r.pairs ≤ 254 → length (record_block r) ≡ 4096
unfolding record_block
length-record_block r few =
    let fields = fields_bytes (record_fields r) in
    let more = fields_bytes (flat_map pair_fields r.pairs) in
    let blank = 4064 - 16 * length r.pairs in
    omega (arith, length-append fields (more ++ replicate blank 0), length-append more (replicate blank 0), length-fields_bytes (record_fields r), length-fields_bytes (flat_map pair_fields r.pairs), width_of-pairs r.pairs, length-replicate {A = ℕ} blank 0)
