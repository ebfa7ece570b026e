-- A settled image settles to itself.
use Rattle.std.proofs.Common.{◌≡◌, ℕ, ◌<◌, List, [], length, refl, sym, ap, ◌∙◌, arith, ⊎_elim, ext_get_or}
use Rattle.std.specs.Prelude.{Contains}
use Rattle.std.proofs.lemmas.List.Elements.{Contains-append_left, Contains-append_right}
use Rattle.r4_base.specs.Image.{Image, block_at, put_pairs}
use Rattle.r4_base.specs.Log.{header_of, footer_of}
use Rattle.r4_base.specs.Chain.{HasLog, Settles, chain_pairs, originals, wandered, log_blocks, committed, flushed, home}
use Rattle.r4_base.proofs.Frame.{same_log, settled_at, length-put_pairs, put_spared, chain_in_range, first_in_range, original_apart, home_cases}

module _ (n : ℕ) (image settled : Image) (s : Settles n image settled) where
  -- what is no original stays
  spared : (b : ℕ) → (Contains (originals s.chain) b → ⊥) → block_at settled b ≡ block_at image b
  spared b out = ap (λ (i : Image). block_at i b) s.is ∙ put_spared (chain_pairs s.chain) image b out

  range : (b : ℕ) → Contains (originals s.chain) b → (b ≡ 19 → ⊥) × (b ≡ 20 → ⊥)
  range b one = original_apart n b (first_in_range n (chain_pairs s.chain) b (chain_in_range n image (flushed image) (committed image) s.chain s.has.txns) one)

  log : HasLog n settled s.chain
  log = same_log settled image n s.chain (ap (λ (x : List ℕ). (header_of x).last) (spared 19 (λ one. (range 19 one).0 refl))) (ap (λ (x : List ℕ). (footer_of x).last) (spared 20 (λ one. (range 20 one).1 refl)))
      (λ b one. spared b (λ original. s.has.apart b original (Contains-append_right (wandered s.chain) (log_blocks s.chain) b one))) s.has

  ends : length settled ≡ length image
  ends = ap (λ (i : Image). length i) s.is ∙ length-put_pairs (chain_pairs s.chain) image

  -- a home holds what its block holds
  at_home : (b : ℕ) → b < length image → block_at settled (home (chain_pairs s.chain) b) ≡ block_at settled b
  at_home b lt = ⊎_elim
      (λ one. spared (home (chain_pairs s.chain) b) (λ original. s.has.apart (home (chain_pairs s.chain) b) original (Contains-append_left (wandered s.chain) (log_blocks s.chain) (home (chain_pairs s.chain) b) one))
      ∙ sym (settled_at image n s.chain b s.has lt) ∙ ap (λ (i : Image). block_at i b) (sym s.is))
      (λ same. ap (λ (h : ℕ). block_at settled h) same.0) (home_cases (chain_pairs s.chain) b)

  again : (b : ℕ) → b < length settled → block_at settled b ≡ block_at (put_pairs (chain_pairs s.chain) settled) b
  again b lt = sym (settled_at settled n s.chain b log lt ∙ at_home b (omega (arith, lt, ends)))

  pub settles_again : Settles n settled settled
  settles_again = record { chain = s.chain; has = log; is = ext_get_or [] settled (put_pairs (chain_pairs s.chain) settled) (sym (length-put_pairs (chain_pairs s.chain) settled)) again }
