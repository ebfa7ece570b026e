-- A record that was written is read.
use Rattle.std.proofs.Common.{◌≡◌, ◌≢◌, ℕ, zero, suc, ◌+◌, ◌-◌, ◌*◌, ◌^◌, ◌<◌, ◌≤◌, List, [], ◌∷◌, ◌++◌, length, replicate, Some, refl, sym, ap, ◌∙◌, arith}
use Rattle.std.specs.List.{flat_map}
use Rattle.std.proofs.lemmas.List.{append_assoc, length-append, replicate-append-replicate}
use Rattle.r4_base.specs.Bytes.{number_at, number_bytes, fields_bytes, FieldsFit, HasFields}
use Rattle.r4_base.proofs.Numbers.{fields_read, number_at-bytes, length-number_bytes, length-fields_bytes}
use Rattle.r4_base.specs.Log.{Record, pair_at, pairs_from, pairs_of, record_magic, record_of, record_fields, pair_fields, record_block}
use Rattle.r4_logfmt.proofs.Pairs.{PairsFit, none_at, one_at}

zero_bytes : number_bytes 8 0 ≡ replicate 8 0
unfolding number_bytes
zero_bytes = refl

zero_read : (front : List ℕ) (m at : ℕ) → length front ≡ at → 8 ≤ m → number_at 8 at (front ++ replicate m 0) ≡ 0
zero_read front m at len big =
    let split : number_bytes 8 0 ++ replicate (m - 8) 0 ≡ replicate m 0 = rw zero_bytes (replicate-append-replicate 8 (m - 8) 0 ∙ ap (λ (k : ℕ). replicate k 0) (omega arith)) in
    rw (← split) (number_at-bytes 8 0 front (replicate (m - 8) 0) at len (omega arith))

pub pairs_again : (n i m : ℕ) (ps : List (ℕ × ℕ)) (front : List ℕ) → length front ≡ 32 + 16 * i → length ps ≤ n → PairsFit ps → (length ps < n → 8 ≤ m) → pairs_from n i (front ++ (fields_bytes (flat_map pair_fields ps) ++ replicate m 0)) ≡ ps
unfolding pairs_from
pairs_again zero i m [] front len le fit room = refl
pairs_again zero i m (p ∷ ps) front len le fit room = absurd (omega arith)
pairs_again (suc n) i m [] front len le fit room = none_at n i (front ++ replicate m 0) (zero_read front m (32 + 16 * i) len (room (omega arith)))
pairs_again (suc n) i m (p ∷ ps) front len le fit room =
    let here : (p.0 ≢ 0) × (p.0 < 2 ^ 64) × (p.1 < 2 ^ 64) = fit 0 p (omega arith) in
    let others : PairsFit ps = λ k d lt. fit (suc k) d (omega arith) in
    let more = fields_bytes (flat_map pair_fields ps) in
    let b = front ++ (fields_bytes (pair_fields p ++ flat_map pair_fields ps) ++ replicate m 0) in
    let two = number_bytes 8 p.0 ++ number_bytes 8 p.1 in
    let regrouped : b ≡ (front ++ two) ++ (more ++ replicate m 0) = simp append_assoc in
    let a = length-number_bytes 8 p.0 in
    let c = length-number_bytes 8 p.1 in
    let two_long : length two ≡ 16 = omega (arith, length-append (number_bytes 8 p.0) (number_bytes 8 p.1)) in
    let front_long : length (front ++ two) ≡ 32 + 16 * (i + 1) = omega (arith, length-append front two) in
    let mid : length (front ++ number_bytes 8 p.0) ≡ 40 + 16 * i = omega (arith, length-append front (number_bytes 8 p.0)) in
    let first : number_at 8 (32 + 16 * i) b ≡ p.0 = ap (number_at 8 (32 + 16 * i)) (simp append_assoc) ∙ number_at-bytes 8 p.0 front (number_bytes 8 p.1 ++ (more ++ replicate m 0)) (32 + 16 * i) len here.1 in
    let regrouped' : b ≡ (front ++ number_bytes 8 p.0) ++ (number_bytes 8 p.1 ++ (more ++ replicate m 0)) = simp append_assoc in
    let second : number_at 8 (40 + 16 * i) b ≡ p.1 = ap (number_at 8 (40 + 16 * i)) regrouped' ∙ number_at-bytes 8 p.1 (front ++ number_bytes 8 p.0) (more ++ replicate m 0) (40 + 16 * i) mid here.2 in
    let pair : pair_at b i ≡ p = rw (first, second) refl in
    let ne : (pair_at b i).0 ≢ 0 = λ z. here.0 (sym first ∙ z) in
    let ih = pairs_again n (i + 1) m ps (front ++ two) front_long (omega arith) others (λ lt. room (omega arith)) in
    one_at n i b ne ∙ rw pair (ap (λ (qs : List (ℕ × ℕ)). p ∷ qs) (ap (pairs_from n (i + 1)) regrouped ∙ ih))

-- what is written is read
pub record_again : (r : Record) → FieldsFit (record_fields r) → PairsFit r.pairs → length r.pairs ≤ 254 → record_of (record_block r) ≡ Some r
unfolding record_of record_block pairs_of
record_again r fit pairs few =
    let more : List ℕ = fields_bytes (flat_map pair_fields r.pairs) in
    let zeros : List ℕ = replicate (4064 - 16 * length r.pairs) 0 in
    let f : HasFields (record_fields r) 8 (record_magic ++ (fields_bytes (record_fields r) ++ (more ++ zeros))) = fields_read (record_fields r) record_magic (more ++ zeros) 8 refl fit in
    let front_long : length (record_magic ++ fields_bytes (record_fields r)) ≡ 32 = omega (arith, length-fields_bytes (record_fields r)) in
    let listed : pairs_from 254 0 (record_magic ++ (fields_bytes (record_fields r) ++ (more ++ zeros))) ≡ r.pairs = ap (pairs_from 254 0) (sym (append_assoc record_magic (fields_bytes (record_fields r)) (more ++ zeros))) ∙ pairs_again 254 0 (4064 - 16 * length r.pairs) r.pairs (record_magic ++ fields_bytes (record_fields r)) front_long few pairs (λ lt. omega arith) in
    rw (f.0, f.1.0, f.1.1.0, f.1.1.1.0, listed) refl
