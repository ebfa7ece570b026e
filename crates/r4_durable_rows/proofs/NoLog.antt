-- Where the journal header names a block that is no head, an image has no log.
use Rattle.std.proofs.Common.{◌≡◌, ◌≢◌, ℕ, List, [], ◌∷◌, None, sym, ap, ◌∙◌}
use Rattle.r4_base.specs.Image.{Image, block_at}
use Rattle.r4_base.specs.Chain.{HasLog, Txn, committed, flushed}
use Rattle.r4_base.specs.Log.{head_of}
use Rattle.r4_base.specs.Value.{Content}
use Rattle.r4_base.specs.Volume.{HasVolume}

module _ (n : ℕ) (image : Image) (head : ℕ) (named : committed image ≡ head) (unflushed : flushed image ≢ head)
    (none : head_of (block_at image head) ≡ None) where
  pub no_log : (chain : List Txn) → HasLog n image chain → ⊥
  no_log [] log = unflushed (sym log.txns ∙ named)
  no_log (t ∷ older) log =
      let says = ap (λ (k : ℕ). head_of (block_at image k)) (sym named ∙ log.txns.0) ∙ log.txns.2.head in
      absurd (cc (sym none ∙ says))

  pub no_volume : (m : Content) → HasVolume n image m → ⊥
  no_volume m v = no_log v.chain v.log
