-- The oldest transaction of a log put in place: what is left, and what an image of the time in between settles to.
use Rattle.std.proofs.Common.{◌≡◌, ◌≢◌, ◌⊎◌, inl, inr, ⊎_elim, ℕ, suc, ◌<◌, ◌≤◌, List, [], ◌∷◌, ◌++◌, length, slice_set, refl, sym, ◌∙◌, ap, subst, arith, length-append, append_assoc, get_or-set_same, get_or-set_other}
use Rattle.std.specs.Prelude.{Contains}
use Rattle.std.proofs.lemmas.List.{length-set, append-nil}
use Rattle.std.proofs.lemmas.List.Elements.{Contains-append_left, Contains-append_right, Contains-append_cases}
use Rattle.r4_base.specs.Image.{Image, block_at, put_pairs, AgreesOutside}
use Rattle.r4_base.specs.Log.{header_of, footer_of}
use Rattle.r4_base.specs.Chain.{Txn, HasTxn, HasTxns, HasLog, SettlesTo, is_footer, chain_pairs, originals, wandered, log_blocks, kept_blocks, committed, flushed, home}
use Rattle.r4_base.proofs.Members.{member_cases, member_here, member_later, no_member}
use Rattle.r4_base.proofs.Frame.{length-put_pairs, put_both, put_spared, past, firsts, seconds, same_txns, put_from, settled_at, home_cases, log_in_range, chain_in_range, second_in_range, first_in_range, original_apart, framed}

-- the oldest transaction's pairs come first
pub pairs_last : (newer : List Txn) (t : Txn) → chain_pairs (newer ++ t ∷ []) ≡ t.pairs ++ chain_pairs newer
pairs_last [] t = sym (append-nil t.pairs)
pairs_last (u ∷ us) t = ap (λ (l : List (ℕ × ℕ)). l ++ u.pairs) (pairs_last us t) ∙ append_assoc t.pairs (chain_pairs us) u.pairs

pub firsts-append : (ps qs : List (ℕ × ℕ)) → firsts (ps ++ qs) ≡ firsts ps ++ firsts qs
firsts-append [] qs = refl
firsts-append (p ∷ ps) qs = ap (λ (l : List ℕ). p.0 ∷ l) (firsts-append ps qs)

pub seconds-append : (ps qs : List (ℕ × ℕ)) → seconds (ps ++ qs) ≡ seconds ps ++ seconds qs
seconds-append [] qs = refl
seconds-append (p ∷ ps) qs = ap (λ (l : List ℕ). p.1 ∷ l) (seconds-append ps qs)

log_left : (newer : List Txn) (t : Txn) (b : ℕ) → Contains (log_blocks newer) b → Contains (log_blocks (newer ++ t ∷ [])) b
log_left [] t b h = absurd (no_member b h)
log_left (u ∷ us) t b h = ⊎_elim (λ is. member_here u.head _ b is) (λ more. member_later u.head _ b (⊎_elim
    (λ r. Contains-append_left u.records (log_blocks (us ++ t ∷ [])) b r)
    (λ later. Contains-append_right u.records (log_blocks (us ++ t ∷ [])) b (log_left us t b later))
    (Contains-append_cases u.records (log_blocks us) b more))) (member_cases u.head _ b h)

-- a log ends at its footer once
one_length : (n : ℕ) (image : Image) (footer at : ℕ) (c d : List Txn) → HasTxns n image footer at c → HasTxns n image footer at d → length c ≡ length d
one_length n image footer at [] [] h k = refl
one_length n image footer at [] (u ∷ d) h k = absurd (k.1 h)
one_length n image footer at (t ∷ c) [] h k = absurd (h.1 k)
one_length n image footer at (t ∷ c) (u ∷ d) h k =
    let a = h.2.head in
    let b = k.2.head in
    let heads : u.head ≡ t.head = sym k.0 ∙ h.0 in
    let same : u.says.prev_tx ≡ t.says.prev_tx = cc (ap (λ (x : ℕ). block_at image x) heads) in
    ap suc (one_length n image footer t.says.prev_tx c d h.3 (subst (λ (x : ℕ). HasTxns n image footer x d) same k.3))

last_txn : (n : ℕ) (image : Image) (footer at : ℕ) (newer : List Txn) (t : Txn) → HasTxns n image footer at (newer ++ t ∷ []) → HasTxns n image footer t.head (t ∷ [])
last_txn n image footer at [] t h = subst (λ (b : ℕ). HasTxns n image footer b (t ∷ [])) h.0 h
last_txn n image footer at (u ∷ us) t h = last_txn n image footer u.says.prev_tx us t h.3

pub last_has : (n : ℕ) (image : Image) (footer at : ℕ) (newer : List Txn) (t : Txn) → HasTxns n image footer at (newer ++ t ∷ []) → HasTxn n image t
last_has n image footer at newer t h = (last_txn n image footer at newer t h).2

-- without the oldest one the log goes back to that one's head
cut_last : (n : ℕ) (image : Image) (footer at : ℕ) (newer : List Txn) (t : Txn) → HasTxns n image footer at (newer ++ t ∷ []) → HasTxns n image t.head at newer
cut_last n image footer at [] t h = h.0
cut_last n image footer at (u ∷ us) t h = (
  h.0,
  (λ is.
      let alone : HasTxns n image footer at (t ∷ []) = subst (λ (b : ℕ). HasTxns n image footer b (t ∷ [])) (sym is) (last_txn n image footer u.says.prev_tx us t h.3) in
      let longs : length (u ∷ (us ++ t ∷ [])) ≡ length (t ∷ []) = one_length n image footer at (u ∷ (us ++ t ∷ [])) (t ∷ []) h alone in
      absurd (omega (arith, longs, length-append us (t ∷ [])))),
  h.2,
  cut_last n image footer u.says.prev_tx us t h.3,
)

module _ (n : ℕ) (base : Image) (newer : List Txn) (t : Txn) (footer : List ℕ) (log : HasLog n base (newer ++ t ∷ [])) (long : length base ≡ n) (more : 20 < n) (named : (footer_of footer).last ≡ t.head) where
  abbrev chain : List Txn
  chain = newer ++ t ∷ []

  abbrev qs : List (ℕ × ℕ)
  qs = chain_pairs newer

  abbrev placed : Image
  placed = put_pairs t.pairs base

  -- with the footer
  abbrev after : Image
  after = slice_set placed 20 footer

  firsts_are : originals chain ≡ firsts t.pairs ++ originals newer
  firsts_are = ap firsts (pairs_last newer t) ∙ firsts-append t.pairs qs

  seconds_are : wandered chain ≡ seconds t.pairs ++ wandered newer
  seconds_are = ap seconds (pairs_last newer t) ∙ seconds-append t.pairs qs

  of_all : (b : ℕ) → Contains (firsts t.pairs) b → Contains (originals chain) b
  of_all b o = subst (λ (l : List ℕ). Contains l b) (sym firsts_are) (Contains-append_left (firsts t.pairs) (originals newer) b o)

  later_original : (b : ℕ) → Contains (originals newer) b → Contains (originals chain) b
  later_original b o = subst (λ (l : List ℕ). Contains l b) (sym firsts_are) (Contains-append_right (firsts t.pairs) (originals newer) b o)

  later_wandered : (b : ℕ) → Contains (wandered newer) b → Contains (wandered chain) b
  later_wandered b w = subst (λ (l : List ℕ). Contains l b) (sym seconds_are) (Contains-append_right (seconds t.pairs) (wandered newer) b w)

  later_kept : (b : ℕ) → Contains (kept_blocks newer) b → Contains (kept_blocks chain) b
  later_kept b h = ⊎_elim
      (λ w. Contains-append_left (wandered chain) (log_blocks chain) b (later_wandered b w))
      (λ l. Contains-append_right (wandered chain) (log_blocks chain) b (log_left newer t b l))
      (Contains-append_cases (wandered newer) (log_blocks newer) b h)

  out : (b : ℕ) → (b ≡ 19) ⊎ (b ≡ 20) → Contains (firsts t.pairs) b → ⊥
  out b which o =
      let apart = original_apart n b (first_in_range n (chain_pairs chain) b (chain_in_range n base _ _ chain log.txns) (of_all b o)) in
      ⊎_elim apart.0 apart.1 which

  kept_high : (b : ℕ) → Contains (kept_blocks chain) b → 22 ≤ b
  kept_high b h = ⊎_elim
      (λ w. (second_in_range n (chain_pairs chain) b (chain_in_range n base _ _ chain log.txns) w).0)
      (λ l. (log_in_range n base _ _ b chain log.txns l).0)
      (Contains-append_cases (wandered chain) (log_blocks chain) b h)

  -- while blocks of the originals hold anything, and the footer's beside them
  as_before : (image : Image) → AgreesOutside (λ b. Contains (firsts t.pairs) b ⊎ (b ≡ 20)) base image → flushed image ≡ flushed base → SettlesTo n is_footer (put_pairs (chain_pairs chain) base) image
  as_before image agrees same_footer = framed n (λ b. Contains (firsts t.pairs) b ⊎ (b ≡ 20)) base image chain log agrees
      (λ b w k. ⊎_elim (λ o. log.apart b (of_all b o) k) (λ is. let high : 22 ≤ b = kept_high b k in absurd (omega (arith, high, is))) w)
      (ap (λ (l : List ℕ). (header_of l).last) (agrees.others 19 (λ w. ⊎_elim (out 19 (inl refl)) (λ is. absurd (omega (arith, is))) w)))
      same_footer is_footer (λ b w. ⊎_elim (λ o. inr (of_all b o)) inl w)

  -- while the pairs are put in place
  pub while_copied : (image : Image) → AgreesOutside (λ b. Contains (firsts t.pairs) b) base image → SettlesTo n is_footer (put_pairs (chain_pairs chain) base) image
  while_copied image agrees = as_before image (record { blocks = agrees.blocks; others = λ b away. agrees.others b (λ o. away (inl o)) }) (ap (λ (l : List ℕ). (footer_of l).last) (agrees.others 20 (out 20 (inr refl))))

  long_placed : length placed ≡ n
  long_placed = length-put_pairs t.pairs base ∙ long

  long_after : length after ≡ n
  long_after = length-set placed 20 footer ∙ long_placed

  after_other : (b : ℕ) → b ≢ 20 → block_at after b ≡ block_at placed b
  after_other b other = get_or-set_other placed 20 b footer [] other

  stays : (b : ℕ) → (Contains (firsts t.pairs) b → ⊥) → b ≢ 20 → block_at after b ≡ block_at base b
  stays b away other = after_other b other ∙ put_spared t.pairs base b away

  log_stays : (b : ℕ) → Contains (log_blocks chain) b → block_at after b ≡ block_at base b
  log_stays b l =
      let kept = Contains-append_right (wandered chain) (log_blocks chain) b l in
      let high : 22 ≤ b = kept_high b kept in
      stays b (λ o. log.apart b (of_all b o) kept) (λ is. absurd (omega (arith, high, is)))

  same_header : committed after ≡ committed base
  same_header = ap (λ (l : List ℕ). (header_of l).last) (stays 19 (out 19 (inl refl)) (λ is. absurd (omega (arith, is))))

  new_footer : flushed after ≡ t.head
  new_footer = ap (λ (l : List ℕ). (footer_of l).last) (get_or-set_same placed 20 footer [] (omega (arith, more, long_placed))) ∙ named

  -- afterwards the newer transactions are left
  pub after_log : HasLog n after newer
  after_log = record {
    txns = subst (λ (k : ℕ). HasTxns n after k (committed after) newer) (sym new_footer)
        (subst (λ (k : ℕ). HasTxns n after t.head k newer) (sym same_header)
        (same_txns after base n t.head (committed base) newer (λ b l. log_stays b (log_left newer t b l)) (cut_last n base (flushed base) (committed base) newer t log.txns)));
    few = omega (arith, log.few, length-append newer (t ∷ []));
    apart = λ b o k. log.apart b (later_original b o) (later_kept b k);
  }

  long_settled : length (put_pairs qs after) ≡ length (put_pairs (chain_pairs chain) base)
  long_settled = length-put_pairs qs after ∙ long_after ∙ sym (length-put_pairs (chain_pairs chain) base ∙ long)

  apart_later : (o : ℕ) → Contains (firsts qs) o → Contains (seconds qs) o → ⊥
  apart_later o a w = log.apart o (later_original o a) (Contains-append_left (wandered chain) (log_blocks chain) o (later_wandered o w))

  -- and the image settles as before
  pub after_settled : AgreesOutside is_footer (put_pairs (chain_pairs chain) base) (put_pairs qs after)
  after_settled = record {
    blocks = long_settled;
    others = λ b other. past (put_pairs qs after) (put_pairs (chain_pairs chain) base) b long_settled (λ lt.
        let below : b < n = omega (arith, lt, length-put_pairs (chain_pairs chain) base, long) in
        let not20 : home qs b ≢ 20 = λ is. ⊎_elim
        (λ w. let high : 22 ≤ home qs b = kept_high (home qs b) (Contains-append_left (wandered chain) (log_blocks chain) (home qs b) (later_wandered (home qs b) w)) in absurd (omega (arith, high, is)))
        (λ same. other (sym same.0 ∙ is)) (home_cases qs b) in
        settled_at after n newer b after_log (omega (arith, below, long_after))
        ∙ after_other (home qs b) not20
        ∙ sym (put_from qs placed placed b b (omega (arith, below, long_placed)) (λ w one. refl) refl apart_later)
        ∙ ap (λ (i : Image). block_at i b) (sym (put_both t.pairs qs base))
        ∙ ap (λ (l : List (ℕ × ℕ)). block_at (put_pairs l base) b) (sym (pairs_last newer t)));
  }

  -- while the footer is written, its number the old one or the new one
  pub while_footed : (image : Image) → AgreesOutside is_footer placed image → (flushed image ≡ flushed placed) ⊎ (flushed image ≡ t.head) → SettlesTo n is_footer (put_pairs (chain_pairs chain) base) image
  while_footed image agrees which = ⊎_elim
      (λ old. as_before image (record { blocks = agrees.blocks ∙ length-put_pairs t.pairs base; others = λ b away. agrees.others b (λ is. away (inr is)) ∙ put_spared t.pairs base b (λ o. away (inl o)) })
      (old ∙ ap (λ (l : List ℕ). (footer_of l).last) (put_spared t.pairs base 20 (out 20 (inr refl)))))
      (λ new.
      let here_agrees : AgreesOutside is_footer after image = record { blocks = agrees.blocks ∙ sym (length-set placed 20 footer); others = λ b other. agrees.others b other ∙ sym (after_other b other) } in
      let here : SettlesTo n is_footer (put_pairs qs after) image = framed n is_footer after image newer after_log here_agrees
      (λ b is k. let high : 22 ≤ b = kept_high b (later_kept b k) in absurd (omega (arith, high, is)))
      (ap (λ (l : List ℕ). (header_of l).last) (here_agrees.others 19 (λ is. absurd (omega (arith, is)))))
      (new ∙ sym new_footer) is_footer (λ b is. inl is) in
      record { settled = here.settled; settles = here.settles; agrees = record { blocks = here.agrees.blocks ∙ after_settled.blocks; others = λ b other. here.agrees.others b other ∙ after_settled.others b other } })
      which

-- Over several turns: what an image settles to by a later log, it settles to by the first one.
pub settles_back : (n : ℕ) (first later image : Image) → AgreesOutside is_footer first later → SettlesTo n is_footer later image → SettlesTo n is_footer first image
settles_back n first later image agrees s = record {
  settled = s.settled;
  settles = s.settles;
  agrees = record { blocks = s.agrees.blocks ∙ agrees.blocks; others = λ b away. s.agrees.others b away ∙ agrees.others b away };
}

pub agrees_back : (one two three : Image) → AgreesOutside is_footer one two → AgreesOutside is_footer two three → AgreesOutside is_footer one three
agrees_back one two three f g = record { blocks = g.blocks ∙ f.blocks; others = λ b away. g.others b away ∙ f.others b away }
