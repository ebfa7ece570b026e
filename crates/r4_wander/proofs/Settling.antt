-- What a crash leaves of a commit settles as without it or as with it.
use Rattle.std.proofs.Common.{◌≡◌, ◌≢◌, ◌⊎◌, inl, inr, ⊎_elim, ℕ, zero, suc, ◌<◌, ◌≤◌, List, [], ◌∷◌, length, get_or, refl, sym, ◌∙◌, ap, subst, arith, get_or-set_same, get_or-set_other}
use Rattle.std.specs.Prelude.{Contains}
use Rattle.std.proofs.lemmas.Bool.{cases_eq}
use Rattle.std.proofs.lemmas.List.{length-set, get_or-take}
use Rattle.r4_base.specs.Image.{Image, IsBlock, IsImage, block_at, sector, put_pairs, AgreesOutside}
use Rattle.r4_base.specs.Log.{header_of, footer_of}
use Rattle.r4_base.specs.Chain.{Txn, HasTxn, HasTxns, HasLog, chain_pairs, originals, log_blocks, committed, flushed}
use Rattle.r4_base.proofs.Numbers.{number_at-same}
use Rattle.r4_base.proofs.Members.{member_here, no_member}
use Rattle.r4_base.proofs.Frame.{past, length-put_pairs, same_txn, same_txns, settled_at, framed}
use Rattle.r4_base.proofs.Choices.{nothing_in}
use Rattle.r4_outside.proofs.Images.{same_sectors}
use Rattle.r4_wander.specs.Torn.{Write, put_writes, targets, IsTarget, IsWritten, IsTornBy}
use Rattle.r4_wander.specs.Parts.{Parts, part, base_of, is_log_number, IsCommit, HasHomes, Without, With, MayLeave}
use Rattle.r4_wander.proofs.Members.{any_cases, any_here, any_later, in_map, log_older, log_record, log_kept, kept_older}

-- ---- a number at the head of a block lies in one sector

pub first_header : (x y : List ℕ) → sector x 0 ≡ sector y 0 → (header_of x).last ≡ (header_of y).last
unfolding header_of
first_header x y same = number_at-same 8 0 x y (λ k lo hi. sym (get_or-take 512 x k 0 (omega arith)) ∙ ap (λ (l : List ℕ). get_or l k 0) same ∙ get_or-take 512 y k 0 (omega arith))

pub first_footer : (x y : List ℕ) → sector x 0 ≡ sector y 0 → (footer_of x).last ≡ (footer_of y).last
unfolding footer_of
first_footer x y same = number_at-same 8 0 x y (λ k lo hi. sym (get_or-take 512 x k 0 (omega arith)) ∙ ap (λ (l : List ℕ). get_or l k 0) same ∙ get_or-take 512 y k 0 (omega arith))

abbrev last_header : List ℕ → ℕ
last_header b = (header_of b).last

abbrev last_footer : List ℕ → ℕ
last_footer b = (footer_of b).last

-- ---- writes

pub length-put_writes : (ws : List Write) (image : Image) → length (put_writes ws image) ≡ length image
length-put_writes [] image = refl
length-put_writes (w ∷ ws) image = length-put_writes ws _ ∙ length-set image w.0 w.1

pub put_writes_other : (ws : List Write) (image : Image) (b : ℕ) → (IsTarget ws b → ⊥) → block_at (put_writes ws image) b ≡ block_at image b
put_writes_other [] image b out = refl
put_writes_other (w ∷ ws) image b out = put_writes_other ws _ b (λ h. out (any_later w.0 (targets ws) b h)) ∙ get_or-set_other image w.0 b w.1 [] (λ is. out (any_here w.0 (targets ws) b is))

pub written_target : (ws : List Write) (b s : ℕ) (x : List ℕ) → IsWritten ws b s x → IsTarget ws b
written_target ws b s x h = subst (IsTarget ws) (sym h.2) (in_map (λ (w : Write). w.0) ws h.0 h.1)

-- one write
pub one_target : (w : Write) (b : ℕ) → IsTarget (w ∷ []) b → b ≡ w.0
one_target w b h = ⊎_elim (λ is. is) (λ no. absurd (nothing_in b no)) (any_cases w.0 [] b h)

pub one_written : (w : Write) (b s : ℕ) (x : List ℕ) → IsWritten (w ∷ []) b s x → x ≡ sector w.1 s
one_written w b s x h = ⊎_elim (λ is. h.3 ∙ ap (λ (v : Write). sector v.1 s) is) (λ no. absurd (nothing_in h.0 no)) (any_cases w [] h.0 h.1)

pub torn_outside : (n : ℕ) (ws : List Write) (base image : Image) → IsImage n base → IsTornBy ws base image → AgreesOutside (IsTarget ws) base image
torn_outside n ws base image shape t = record {
  blocks = t.blocks;
  others = λ b out. past image base b t.blocks (λ lt. same_sectors (block_at image b) (block_at base b) (t.whole b lt) (shape.whole b (omega (arith, lt, shape.blocks)))
      (λ s ls. ⊎_elim (λ same. same) (λ w. absurd (out (written_target ws b s _ w))) (t.sectors b s lt ls)));
}

-- ---- the four parts

module _ (n : ℕ) (base : Image) (chain : List Txn) (txn : Txn) (plan : Parts) (ok : IsCommit n base chain txn plan) where
  abbrev base1 : Image
  base1 = base_of plan base 1

  abbrev base2 : Image
  base2 = base_of plan base 2

  abbrev base3 : Image
  base3 = base_of plan base 3

  abbrev longer : List Txn
  longer = txn ∷ chain

  -- each part changes its own blocks
  agrees1 : AgreesOutside (IsTarget plan.first) base base1
  agrees1 = record { blocks = length-put_writes plan.first base; others = λ b out. put_writes_other plan.first base b out }

  agrees2 : AgreesOutside (λ b. b ≡ 19) base1 base2
  agrees2 = record { blocks = length-set base1 19 plan.header; others = λ b out. get_or-set_other base1 19 b plan.header [] out }

  agrees3 : AgreesOutside (IsTarget plan.homes) base2 base3
  agrees3 = record { blocks = length-put_writes plan.homes base2; others = λ b out. put_writes_other plan.homes base2 b out }

  pub long1 : length base1 ≡ n
  long1 = ok.first_image.blocks

  pub long2 : length base2 ≡ n
  long2 = agrees2.blocks ∙ long1

  long3 : length base3 ≡ n
  long3 = agrees3.blocks ∙ long2

  header_block : block_at base2 19 ≡ plan.header
  header_block = get_or-set_same base1 19 plan.header [] (omega (arith, ok.more, long1))

  pub image2 : IsImage n base2
  image2 = record {
    blocks = long2;
    whole = λ b lt. elim (cases_eq b 19) [
      | inl is ↦ subst IsBlock (sym (ap (λ (k : ℕ). block_at base2 k) is ∙ header_block)) ok.header_whole
      | inr other ↦ subst IsBlock (sym (agrees2.others b other)) (ok.first_image.whole b lt)
    ];
  }

  pub header2 : committed base2 ≡ txn.head
  header2 = ap last_header header_block ∙ ok.header

  footer2 : flushed base2 ≡ flushed base
  footer2 = ap last_footer (agrees2.others 20 (λ no. absurd (omega (arith, no))) ∙ agrees1.others 20 (λ w. (ok.free 20 w).1 refl))

  log_same : (b : ℕ) → Contains (log_blocks longer) b → block_at base2 b ≡ block_at base1 b
  log_same b one = let high : 22 ≤ b = ok.kept b (log_kept txn longer b one) in agrees2.others b (λ is. absurd (omega (arith, high, is)))

  chain_same : (b : ℕ) → Contains (log_blocks chain) b → block_at base2 b ≡ block_at base b
  chain_same b one = log_same b (log_older txn chain b one) ∙ agrees1.others b (λ w. (ok.free b w).2 (log_kept txn chain b one))

  -- the header names the new transaction, and behind it the older ones are found as before
  pub log2 : HasLog n base2 longer
  log2 =
      let older : HasTxns n base2 (flushed base) (committed base) chain = same_txns base2 base n (flushed base) (committed base) chain chain_same ok.log.txns in
      let older2 : HasTxns n base2 (flushed base2) (committed base) chain = subst (λ (k : ℕ). HasTxns n base2 k (committed base) chain) (sym footer2) older in
      let here : HasTxn n base2 txn = same_txn base2 base1 n txn (log_same txn.head (member_here txn.head _ txn.head refl)) (λ b one. log_same b (log_record txn chain b one)) ok.has_txn in
      record {
        txns = (header2, (λ same. ok.fresh (sym header2 ∙ same ∙ footer2)), here, subst (λ (k : ℕ). HasTxns n base2 (flushed base2) k chain) (sym ok.prev) older2);
        few = omega (arith, ok.few);
        apart = λ b o k. (ok.apart b o).2 k;
      }

  low : (b : ℕ) → 22 ≤ b → is_log_number b → ⊥
  low b high is = ⊎_elim (λ one. absurd (omega (arith, high, one))) (λ one. absurd (omega (arith, high, one))) is

  -- what is not committed
  without : (image : Image) (W : ℕ → Type 0) → AgreesOutside W base image → ((b : ℕ) → W b → IsTarget plan.first b ⊎ (b ≡ 19)) → committed image ≡ committed base → Without n base chain plan image
  without image W agrees within same_header =
      framed n W base image chain ok.log agrees
      (λ b w one. ⊎_elim (λ f. (ok.free b f).2 one) (λ is. low b (ok.kept b (kept_older txn chain b one)) (inl is)) (within b w))
      same_header
      (ap last_footer (agrees.others 20 (λ w. ⊎_elim (λ f. (ok.free 20 f).1 refl) (λ is. absurd (omega (arith, is))) (within 20 w))))
      (λ b. IsTarget plan.first b ⊎ is_log_number b) (λ b w. inl (⊎_elim inl (λ is. inr (inl is)) (within b w)))

  -- what is committed
  with_it : (image : Image) (W : ℕ → Type 0) → AgreesOutside W base2 image → ((b : ℕ) → W b → is_log_number b ⊎ Contains (originals longer) b) → committed image ≡ committed base2 → flushed image ≡ flushed base2 → With n base chain txn plan image
  with_it image W agrees within same_header same_footer =
      framed n W base2 image longer log2 agrees
      (λ b w one. ⊎_elim (λ is. low b (ok.kept b one) is) (λ o. (ok.apart b o).2 one) (within b w))
      same_header same_footer is_log_number (λ b w. within b w)

  pub while_first : (image : Image) → IsTornBy plan.first base image → Without n base chain plan image
  while_first image t =
      let agrees = torn_outside n plan.first base image ok.image t in
      without image (IsTarget plan.first) agrees (λ b w. inl w) (ap last_header (agrees.others 19 (λ w. (ok.free 19 w).0 refl)))

  pub while_header : (image : Image) → IsTornBy ((19, plan.header) ∷ []) base1 image → Without n base chain plan image ⊎ With n base chain txn plan image
  while_header image t =
      let agrees = torn_outside n ((19, plan.header) ∷ []) base1 image ok.first_image t in
      let others : (b : ℕ) → b ≢ 19 → block_at image b ≡ block_at base1 b = λ b out. agrees.others b (λ h. out (one_target (19, plan.header) b h)) in
      let old : sector (block_at image 19) 0 ≡ sector (block_at base1 19) 0 → Without n base chain plan image = λ same.
      without image (λ b. IsTarget plan.first b ⊎ (b ≡ 19)) (record { blocks = agrees.blocks ∙ agrees1.blocks; others = λ b out. others b (λ is. out (inr is)) ∙ agrees1.others b (λ w. out (inl w)) }) (λ b w. w)
      (first_header (block_at image 19) (block_at base1 19) same ∙ ap last_header (agrees1.others 19 (λ w. (ok.free 19 w).0 refl))) in
      let new : sector (block_at image 19) 0 ≡ sector plan.header 0 → With n base chain txn plan image = λ same.
      with_it image (λ b. b ≡ 19) (record { blocks = agrees.blocks ∙ sym agrees2.blocks; others = λ b out. others b out ∙ sym (agrees2.others b out) }) (λ b is. inl (inl is))
      (first_header (block_at image 19) plan.header same ∙ ap last_header (sym header_block))
      (ap last_footer (others 20 (λ is. absurd (omega (arith, is))) ∙ sym (agrees2.others 20 (λ no. absurd (omega (arith, no)))))) in
      ⊎_elim (λ same. inl (old same)) (λ w. inr (new (one_written (19, plan.header) 19 0 _ w))) (t.sectors 19 0 (omega (arith, ok.more, long1)) (omega arith))

  -- blocks 19 and 20 are no originals
  not_original : (b : ℕ) → is_log_number b → Contains (originals longer) b → ⊥
  not_original b is o = ⊎_elim (ok.apart b o).0 (ok.apart b o).1 is

  module _ (fin : HasHomes n base chain txn plan) where
    pub while_homes : (image : Image) → IsTornBy plan.homes base2 image → With n base chain txn plan image
    while_homes image t =
        let agrees = torn_outside n plan.homes base2 image image2 t in
        with_it image (IsTarget plan.homes) agrees (λ b w. inr (fin.homes b w))
        (ap last_header (agrees.others 19 (λ w. not_original 19 (inl refl) (fin.homes 19 w))))
        (ap last_footer (agrees.others 20 (λ w. not_original 20 (inr refl) (fin.homes 20 w))))

    long_settled : length base3 ≡ length (put_pairs (chain_pairs longer) base2)
    long_settled = agrees3.blocks ∙ sym (length-put_pairs (chain_pairs longer) base2)

    pub while_footer : (image : Image) → IsTornBy ((20, plan.footer) ∷ []) base3 image → With n base chain txn plan image
    while_footer image t =
        let agrees = torn_outside n ((20, plan.footer) ∷ []) base3 image fin.image t in
        let others : (b : ℕ) → b ≢ 20 → block_at image b ≡ block_at base3 b = λ b out. agrees.others b (λ h. out (one_target (20, plan.footer) b h)) in
        let header3 : committed image ≡ committed base2 = ap last_header (others 19 (λ is. absurd (omega (arith, is))) ∙ agrees3.others 19 (λ w. not_original 19 (inl refl) (fin.homes 19 w))) in
        let old : sector (block_at image 20) 0 ≡ sector (block_at base3 20) 0 → With n base chain txn plan image = λ same.
        with_it image (λ b. IsTarget plan.homes b ⊎ (b ≡ 20)) (record { blocks = agrees.blocks ∙ agrees3.blocks; others = λ b out. others b (λ is. out (inr is)) ∙ agrees3.others b (λ w. out (inl w)) })
        (λ b w. ⊎_elim (λ h. inr (fin.homes b h)) (λ is. inl (inr is)) w) header3
        (first_footer (block_at image 20) (block_at base3 20) same ∙ ap last_footer (agrees3.others 20 (λ w. not_original 20 (inr refl) (fin.homes 20 w)))) in
        let new : sector (block_at image 20) 0 ≡ sector plan.footer 0 → With n base chain txn plan image = λ same.
        let even : committed image ≡ flushed image = header3 ∙ header2 ∙ sym (first_footer (block_at image 20) plan.footer same ∙ fin.footer) in
        let long : length image ≡ length (put_pairs (chain_pairs longer) base2) = agrees.blocks ∙ long_settled in
        record {
          settled = image;
          settles = record { chain = []; has = record { txns = even; few = omega arith; apart = λ b o k. no_member b o }; is = refl };
          agrees = record {
            blocks = long;
            others = λ b out. past image (put_pairs (chain_pairs longer) base2) b long (λ lt.
                let below : b < length base2 = omega (arith, lt, length-put_pairs (chain_pairs longer) base2) in
                others b (λ is. out (inr is)) ∙ fin.placed b (omega (arith, below, long2)) ∙ sym (settled_at base2 n longer b log2 below));
          };
        } in
        ⊎_elim old (λ w. new (one_written (20, plan.footer) 20 0 _ w)) (t.sectors 20 0 (omega (arith, ok.more, long3)) (omega arith))

    -- after the footer nothing is unflushed
    pub log4 : HasLog n (base_of plan base 4) []
    log4 =
        let still : committed (base_of plan base 4) ≡ flushed (base_of plan base 4) =
        ap last_header (get_or-set_other base3 20 19 plan.footer [] (λ no. absurd (omega (arith, no))) ∙ agrees3.others 19 (λ w. not_original 19 (inl refl) (fin.homes 19 w))) ∙ header2
        ∙ sym (ap last_footer (get_or-set_same base3 20 plan.footer [] (omega (arith, ok.more, long3))) ∙ fin.footer) in
        record { txns = still; few = omega arith; apart = λ b o k. no_member b o }

    -- and once it is synced
    pub when_footed : (image : Image) → IsTornBy [] (base_of plan base 4) image → With n base chain txn plan image
    when_footed image t = while_footer image (record {
      blocks = t.blocks ∙ length-set base3 20 plan.footer;
      whole = λ b lt. t.whole b (omega (arith, lt, length-set base3 20 plan.footer));
      sectors = λ b s lt ls. let in_it : b < length (base_of plan base 4) = omega (arith, lt, length-set base3 20 plan.footer) in
          ⊎_elim (λ same. elim (cases_eq b 20) [
            | inl is ↦ inr ((20, plan.footer), any_here (20, plan.footer) [] (20, plan.footer) refl, is, same ∙ ap (λ (k : ℕ). sector (block_at (base_of plan base 4) k) s) is ∙ ap (λ (l : List ℕ). sector l s) (get_or-set_same base3 20 plan.footer [] (omega (arith, ok.more, long3))))
            | inr other ↦ inl (same ∙ ap (λ (l : List ℕ). sector l s) (get_or-set_other base3 20 b plan.footer [] other))
          ]) (λ no. absurd (nothing_in no.0 no.1)) (t.sectors b s in_it ls);
    })

  -- In each part, what a crash leaves of its writes settles as the part says.
  pub settles_by_part : (i : ℕ) (image : Image) → i ≤ 4 → (2 ≤ i → HasHomes n base chain txn plan) → IsTornBy (part plan i) (base_of plan base i) image → MayLeave n base chain txn plan i image
  settles_by_part zero image lt fin t = while_first image t
  settles_by_part (suc zero) image lt fin t = while_header image t
  settles_by_part (suc (suc zero)) image lt fin t = while_homes (fin (omega arith)) image t
  settles_by_part (suc (suc (suc zero))) image lt fin t = while_footer (fin (omega arith)) image t
  settles_by_part (suc (suc (suc (suc zero)))) image lt fin t = when_footed (fin (omega arith)) image t
  settles_by_part (suc (suc (suc (suc (suc more))))) image lt fin t = absurd (omega (arith, lt))
