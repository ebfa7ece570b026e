-- One home is overwritten, where the journal header is not there.
use Rattle.std.proofs.Common.{◌≡◌, ◌≢◌, inl, inr, ⊎_elim, ℕ, ◌<◌, List, [], ◌∷◌, ◌++◌, set, sym, ap, ◌∙◌, subst}
use Rattle.std.proofs.Common.{arith, get_or-set_other}
use Rattle.std.specs.Prelude.{Contains}
use Rattle.std.proofs.lemmas.List.Elements.{All-contains, Contains-append_right}
use Rattle.r4_base.specs.Chain.{HasLog, IsOriginalNumber, Settles, Txn, chain_pairs, committed, flushed}
use Rattle.r4_base.specs.Image.{AreDifferent, Image, IsBlock, IsImage, block_at, put_pairs}
use Rattle.r4_base.specs.Log.{footer_of, header_of}
use Rattle.r4_base.proofs.Frame.{original_apart}
use Rattle.r4_wander.specs.LogPlan.{first, news, originals_of, placed_writes, scratch}
use Rattle.r4_wander.specs.Parts.{is_log_number}
use Rattle.r4_wander.specs.Safe.{IsEncoded, IsSafe, WithAtom, WithoutAtom}
use Rattle.r4_wander.specs.Seen.{Copy}
use Rattle.r4_wander.specs.Torn.{IsTarget, Write, put_writes, targets}
use Rattle.r4_wander.specs.declared.plan.LogPlan.{LogPlan}
use Rattle.r4_wander.proofs.Encoding.{news_are}
use Rattle.r4_wander.proofs.Members.{from_map, in_map}
use Rattle.r4_wander.proofs.Order.{image_put, put_at}
use Rattle.r4_wander.proofs.Settling.{length-put_writes, put_writes_other}
use Rattle.r4_durable_rows.specs.Orders.{IsLeft, header, homes_early}
use Rattle.r4_durable_rows.proofs.OneWrite.{one_write, written}

-- an image in which nothing is unflushed settles to itself
pub plain : (n : ℕ) (at settled : Image) → committed at ≡ flushed at → Settles n at settled → settled ≡ at
plain n at settled even s = go s.chain s.has s.is
  where
    go : (chain : List Txn) → HasLog n at chain → settled ≡ put_pairs (chain_pairs chain) at → settled ≡ at
    go [] log is = is
    go (t ∷ older) log is = absurd (log.txns.1 even)

module _ (n : ℕ) (base : Image) (p : LogPlan) (safe : IsSafe n base [] p) (reads : IsEncoded p) where
  -- the log is synced
  abbrev pub logged : Image
  logged = put_writes (first p) base

  pub logged_image : IsImage n logged
  logged_image = image_put n (first p) base reads.first_whole safe.image

  number : (c : Copy) → Contains p.wandered c → IsOriginalNumber n c.original
  number c one =
      All-contains (IsOriginalNumber n) (originals_of p) c.original safe.originals_range
      (in_map (λ (x : Copy). x.original) p.wandered c one)

  inside : (c : Copy) → Contains p.wandered c → c.original < n
  inside c one =
      ⊎_elim (λ is. omega (arith, is, safe.more)) (λ more. ⊎_elim (λ is. omega (arith, is, safe.more)) (λ r. r.1) more)
      (number c one)

  not_first : (c : Copy) → Contains p.wandered c → IsTarget (first p) c.original → ⊥
  not_first c one target = safe.no_original c.original target (in_map (λ (x : Copy). x.original) p.wandered c one)

  in_first : (b : ℕ) → IsTarget (scratch p) b → IsTarget (first p) b
  in_first b h =
      let (u, one, at) = from_map (λ (x : Write). x.0) (scratch p) b h in
      subst (IsTarget (first p)) (sym at)
      (in_map (λ (x : Write). x.0) (first p) u (Contains-append_right (placed_writes p) (scratch p) u one))

  not_number : (c : Copy) → Contains p.wandered c → is_log_number c.original → ⊥
  not_number c one is = let apart = original_apart n c.original (number c one) in ⊎_elim apart.0 apart.1 is

  low_first : (b : ℕ) → b < 22 → IsTarget (first p) b → ⊥
  low_first b lt h = let range = safe.in_range b h in absurd (omega (arith, range.0, lt))

  module _ (v w : Copy) (one : Contains p.wandered v) (two : Contains p.wandered w) (apart : v.original ≢ w.original)
      (new_v : v.block ≢ block_at base v.original) (new_w : w.block ≢ block_at base w.original) where
    -- and one home is there
    abbrev pub one_home : Image
    one_home = set logged v.original v.block

    home_others : (b : ℕ) → b ≢ v.original → block_at one_home b ≡ block_at logged b
    home_others b other = get_or-set_other logged v.original b v.block [] other

    pub home_left : IsLeft (homes_early p) base one_home
    home_left = inr (inl (one_write n (header p ++ news p) logged v.original v.block logged_image (inside v one)
        (Contains-append_right (header p) (news p) (v.original, v.block)
        (in_map (λ (x : Copy). (x.original, x.block)) p.wandered v one))
        (All-contains (λ (x : Write). IsBlock x.1) (news p) (v.original, v.block) reads.homes_whole
        (in_map (λ (x : Copy). (x.original, x.block)) p.wandered v one))))

    low : (b : ℕ) → b < 22 → b ≢ v.original → block_at one_home b ≡ block_at base b
    low b lt other = home_others b other ∙ put_writes_other (first p) base b (low_first b lt)

    even : committed one_home ≡ flushed one_home
    even =
        ap (λ (x : List ℕ). (header_of x).last) (low 19 (omega arith) (λ is. not_number v one (inl (sym is))))
        ∙ safe.log.txns
        ∙ sym (ap (λ (x : List ℕ). (footer_of x).last) (low 20 (omega arith) (λ is. not_number v one (inr (sym is)))))

    pub not_old : WithoutAtom n base [] p one_home → ⊥
    not_old x =
        new_v (sym (written n (first p) logged v.original v.block logged_image (inside v one))
        ∙ ap (λ (k : Image). block_at k v.original) (sym (plain n one_home x.settled even x.settles))
        ∙ x.agrees.others v.original (λ is. ⊎_elim (not_first v one) (not_number v one) is))

    news_differ : AreDifferent (targets (news p))
    news_differ = subst AreDifferent (sym (news_are p.wandered)) safe.originals_differ

    there : block_at (put_writes (news p) (put_writes (placed_writes p) base)) w.original ≡ w.block
    there =
        put_at (news p) (put_writes (placed_writes p) base) (w.original, w.block) news_differ
        (in_map (λ (x : Copy). (x.original, x.block)) p.wandered w two)
        (omega (arith, inside w two, safe.image.blocks, length-put_writes (placed_writes p) base))

    pub not_new : WithAtom n base [] p one_home → ⊥
    not_new x =
        new_w (sym there
        ∙ sym (x.agrees.others w.original (λ is. ⊎_elim (λ s. not_first w two (in_first w.original s))
        (not_number w two) is))
        ∙ ap (λ (k : Image). block_at k w.original) (plain n one_home x.settled even x.settles)
        ∙ home_others w.original (λ is. apart (sym is))
        ∙ put_writes_other (first p) base w.original (not_first w two))
