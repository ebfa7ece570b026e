-- What is written over the blocks that a volume still needs.
use Rattle.std.proofs.Common.{◌≡◌, ◌≢◌, inl, ⊎_elim, ℕ, zero, suc, ◌<◌, ◌≤◌, List, [], ◌∷◌, ◌++◌, set, None, Some}
use Rattle.std.proofs.Common.{refl, sym, ap, ◌∙◌, subst, arith, get_or-set_same, get_or-set_other}
use Rattle.std.specs.Prelude.{Contains, map}
use Rattle.std.proofs.lemmas.List.Elements.{Contains-append_cases, Contains-append_left, Contains-append_right}
use Rattle.r4_base.specs.Image.{Image, IsBlock, IsImage, block_at, put_pairs}
use Rattle.r4_base.specs.Cell.{IsCellOf, cell_of}
use Rattle.r4_base.specs.Chain.{HasLog, Txn, chain_pairs, committed, flushed, kept_blocks, log_blocks, wandered}
use Rattle.r4_base.specs.Log.{footer_of, head_of, header_of}
use Rattle.r4_base.specs.Tree.{Node}
use Rattle.r4_base.specs.Value.{Content, Value}
use Rattle.r4_base.specs.Volume.{HasContent, HasVolume, Needs}
use Rattle.r4_base.proofs.Logs.{one_log}
use Rattle.r4_base.proofs.Members.{member_cases, no_member}
use Rattle.r4_base.proofs.Superblocks.{read_lawful}
use Rattle.r4_wander.specs.Kept.{IsVolumeOf}
use Rattle.r4_wander.specs.LogPlan.{first, pairs, parts_of, txn_of}
use Rattle.r4_wander.specs.Parts.{base_of}
use Rattle.r4_wander.specs.Safe.{IsEncoded, IsSafe}
use Rattle.r4_wander.specs.Seen.{Copy}
use Rattle.r4_wander.specs.Torn.{IsTornBy}
use Rattle.r4_wander.specs.declared.plan.LogPlan.{LogPlan}
use Rattle.r4_wander.proofs.Encoding.{head_target, is_commit}
use Rattle.r4_wander.proofs.Members.{any_here, from_map, in_map, log_kept, log_record}
use Rattle.r4_wander.proofs.Settling.{header2, log2, long2}
use Rattle.r4_commit.specs.Planned.{blocks_of}
use Rattle.r4_commit.proofs.Safety.{not_fixed_range}
use Rattle.r4_durable_rows.specs.Orders.{IsLeft, in_order}
use Rattle.r4_durable_rows.proofs.NoLog.{no_volume}
use Rattle.r4_durable_rows.proofs.OneWrite.{one_write}

module _ (n : ℕ) (base : Image) (chain : List Txn) (p : LogPlan) (safe : IsSafe n base chain p) (reads : IsEncoded p)
  where
    abbrev two : Image
    two = base_of (parts_of p) base 2

    logged : HasLog n two (txn_of p ∷ chain)
    logged = log2 n base chain (txn_of p) (parts_of p) (is_commit n base chain p safe reads)

    names_head : committed two ≡ p.head.0
    names_head = header2 n base chain (txn_of p) (parts_of p) (is_commit n base chain p safe reads)

    -- the log's blocks are kept by the newest transaction
    kept : (b : ℕ) → Contains (blocks_of p) b → Contains (kept_blocks (txn_of p ∷ chain)) b
    kept b one = ⊎_elim copied (λ more. ⊎_elim recorded head_kept (Contains-append_cases p.records
        (p.head.0 ∷ []) b more))
        (Contains-append_cases (map (λ (w : Copy). w.copy) p.wandered) (p.records ++ p.head.0 ∷ []) b one)
      where
        copied : Contains (map (λ (w : Copy). w.copy) p.wandered) b → Contains (kept_blocks (txn_of p ∷ chain)) b
        copied h =
            let (w, one, at) = from_map (λ (w : Copy). w.copy) p.wandered b h in
            let pair : Contains (chain_pairs (txn_of p ∷ chain)) (w.original, w.copy) =
            Contains-append_right (chain_pairs chain) (pairs p) (w.original, w.copy)
            (in_map (λ (w : Copy). (w.original, w.copy)) p.wandered w one) in
            Contains-append_left (wandered (txn_of p ∷ chain)) (log_blocks (txn_of p ∷ chain)) b
            (subst (Contains (wandered (txn_of p ∷ chain))) (sym at)
            (in_map (λ (q : ℕ × ℕ). q.1) (chain_pairs (txn_of p ∷ chain)) (w.original, w.copy) pair))

        recorded : Contains p.records b → Contains (kept_blocks (txn_of p ∷ chain)) b
        recorded h = log_kept (txn_of p) (txn_of p ∷ chain) b (log_record (txn_of p) chain b h)

        head_kept : Contains (p.head.0 ∷ []) b → Contains (kept_blocks (txn_of p ∷ chain)) b
        head_kept h = log_kept (txn_of p) (txn_of p ∷ chain) b
            (⊎_elim (λ is. any_here p.head.0 _ b is) (λ no. absurd (no_member b no)) (member_cases p.head.0 [] b h))

    pub needed : (m : Content) (v : HasVolume n two m) (b : ℕ) → Contains (blocks_of p) b → Needs v b
    needed m v b one =
        inl (subst (λ (c : List Txn). Contains (kept_blocks c) b) (one_log n two
        (txn_of p ∷ chain) v.chain logged v.log)
        (kept b one))

    pub overwritten_head : (x : List ℕ) → head_of x ≡ None → (m : Content) → HasVolume n (set two p.head.0 x) m → ⊥
    overwritten_head x none m v =
        let range = safe.in_range p.head.0 (head_target n base chain p safe reads) in
        let long = long2 n base chain (txn_of p) (parts_of p) (is_commit n base chain p safe reads) in
        let here : block_at (set two p.head.0 x) p.head.0 ≡ x =
        get_or-set_same two p.head.0 x [] (omega (arith, range.1, long)) in
        let others : (b : ℕ) → b < 22 → block_at (set two p.head.0 x) b ≡ block_at two b =
        λ b low. get_or-set_other two p.head.0 b x [] (λ is. absurd (omega (arith, is, range.0, low))) in
        let named : committed (set two p.head.0 x) ≡ p.head.0 =
        ap (λ (y : List ℕ). (header_of y).last) (others 19 (omega arith)) ∙ names_head in
        let footer : flushed (set two p.head.0 x) ≡ flushed two =
        ap (λ (y : List ℕ). (footer_of y).last) (others 20 (omega arith)) in
        no_volume n (set two p.head.0 x) p.head.0 named
        (λ is. logged.txns.1 (names_head ∙ sym is ∙ footer)) (ap head_of here ∙ none) m v

-- ---- over a cell of the old content

-- a block is told by the cell that it is
same_block : (blocks : ℕ) (x : List ℕ) (e : Node Value) → IsCellOf blocks x e → e.block ≡ x
unfolding cell_of
same_block blocks x e is = ap (λ (c : Node Value). c.block) is.says ∙ go e.level
  where
    go : (level : ℕ) → (cell_of level e.lo e.hi x).block ≡ x
    go zero = refl
    go (suc l) = refl

module _ (n : ℕ) (base : Image) (m : Content) (c : HasContent n base m) (p : LogPlan) (b : ℕ) (x : List ℕ)
    (e : Node Value) (whole : IsImage n base) (log : HasLog n base []) (was : c.store b ≡ Some e)
    (one : Contains (first p) (b, x)) (block : IsBlock x) (new : x ≢ block_at base b) where
  abbrev pub over : Image
  over = set base b x

  range : (22 ≤ b) × (b < n)
  range =
      let place = c.places b e was in
      let lawful = (read_lawful n (block_at base 17) c.super c.layout.format).0 in
      (not_fixed_range c.super.block_count b place.1, omega (arith, place.0, lawful.blocks.2))

  here : block_at over b ≡ x
  here = get_or-set_same base b x [] (omega (arith, range, whole.blocks))

  others : (k : ℕ) → k ≢ b → block_at over k ≡ block_at base k
  others k apart = get_or-set_other base b k x [] apart

  torn : IsTornBy (first p) base over
  torn = one_write n (first p) base b x whole range.1 one block

  pub over_left : IsLeft (in_order p) base over
  over_left = inl torn

  -- nothing is unflushed in it either
  even : committed over ≡ flushed over
  even =
      ap (λ (y : List ℕ). (header_of y).last) (others 19 (λ is. absurd (omega (arith, range, is))))
      ∙ log.txns
      ∙ sym (ap (λ (y : List ℕ). (footer_of y).last) (others 20 (λ is. absurd (omega (arith, range, is)))))

  settled_here : (chain : List Txn) → HasLog n over chain → block_at (put_pairs (chain_pairs chain) over) b ≡ x
  settled_here [] log = here
  settled_here (t ∷ older) log = absurd (log.txns.1 even)

  pub not_the_old : IsVolumeOf n over base m c → ⊥
  not_the_old v =
      let stored : v.volume.content.store b ≡ Some e = ap (λ t. t b) v.store ∙ was in
      let now = same_block v.volume.content.super.block_count _ e (v.volume.content.cells b e stored) in
      let old = same_block c.super.block_count _ e (c.cells b e was) in
      new (sym (now ∙ settled_here v.volume.chain v.volume.log) ∙ old)
