-- The key of a body's first byte.
use Rattle.std.specs.Prelude.{◌≡◌, ℕ, zero, suc, ◌+◌, ◌*◌, ◌/◌, ◌%◌, ◌^◌, ◌<◌, [], ◌∷◌, true, slice_index}
use Rattle.std.proofs.Common.{arith, refl, sym, ap, ◌∙◌}
use Rattle.std.proofs.lemmas.Bool.{eqb-true}
use Rattle.r4_base.specs.Key.{IsKey, key_of_rank, later, minor_of, offset_of, rank, with_offset}
use Rattle.r4_base.specs.Volume.{byte_rank, object_of}
use Rattle.r4_base.specs.declared.items.Target.{Target}
use Rattle.r4_base.specs.declared.key.Key.{Key}
use Rattle.r4_graft.proofs.Halves.{later_key, later_rank}
use Rattle.r4_bodies.proofs.r4_leaf_edits.KeyRanks.{body_is, key_again}
use Rattle.r4_bodies.specs.r4_leaf_edits.r4_reach.Reach.{is_body}
use Rattle.r4_bodies.specs.r4_leaf_edits.r4_reach.Touched.{Body}
use Rattle.r4_extent_demands.specs.Sizes.{IsFirstKey}

begin_key : (k : Key) → IsKey k → IsKey (with_offset k 0)
begin_key k is = record { four = refl; small = by_place }
  where
    by_place : (i : ℕ) → slice_index (with_offset k 0).el i < 2 ^ 64
    by_place zero = is.small 0
    by_place (suc zero) = is.small 1
    by_place (suc (suc zero)) = is.small 2
    by_place (suc (suc (suc zero))) = omega arith
    by_place (suc (suc (suc (suc i)))) = omega arith

pub first_key : (k : Key) (b : Body) → IsKey k → object_of k ≡ b.file → is_body (rank k) ≡ true
    → IsFirstKey b (with_offset k 0)
first_key k b is file body =
    let minor : slice_index k.el 0 % 16 ≡ 4 = eqb-true (slice_index k.el 0 % 16) 4 (sym (body_is k is) ∙ body) in
    let whole : slice_index k.el 0 ≡ slice_index k.el 0 / 16 * 16 + 4 = omega (arith, minor) in
    record {
      key = begin_key k is;
      at = ap (λ (n : ℕ). rank (record { el = n ∷ slice_index k.el 1 ∷ slice_index k.el 2 ∷ 0 ∷ [] })) whole
          ∙ ap (λ (o : Target). byte_rank o 0) file;
      begins = refl;
      body = minor;
    }

-- a key behind another one is the one of its rank
pub key_at : (f k : Key) (n : ℕ) → IsKey f → offset_of f + n < 2 ^ 64 → k ≡ later f n → key_of_rank (rank f + n) ≡ k
key_at f k n is fits e =
    ap key_of_rank (sym (later_rank f n)) ∙ key_again (later f n) (later_key f n is fits) ∙ sym e

pub minor_is : (k : Key) → IsKey k → is_body (rank k) ≡ true → minor_of k ≡ 4
minor_is k is body = eqb-true (slice_index k.el 0 % 16) 4 (sym (body_is k is) ∙ body)
