-- What the log of an image rests on, and what it settles to.
use Rattle.std.proofs.Common.{◌≡◌, ◌≢◌, ◌⊎◌, inl, inr, ⊎_elim, ℕ, ◌+◌, ◌<◌, Bool, true, false, cond, List, [], ◌∷◌, ◌++◌, length, map, slice_set, refl, sym, ◌∙◌, ap, subst, arith, get_or-set_same, get_or-set_other}
use Rattle.std.specs.Prelude.{◌==◌, Contains, All}
use Rattle.std.proofs.lemmas.Bool.{cases_eq, cases_lt}
use Rattle.std.proofs.lemmas.Bool.Decides.{nat_tests}
use Rattle.std.proofs.lemmas.List.{length-set, get_or_past}
use Rattle.std.proofs.lemmas.List.Elements.{All-nil, All-same, All-append, All-head, All-tail, Contains-append_left, Contains-append_right, Contains-append_cases}
use Rattle.r4_base.specs.Image.{Image, block_at, put_pairs, AgreesOutside}
use Rattle.r4_base.specs.Log.{head_of, record_of}
use Rattle.r4_base.specs.Chain.{Txn, InRange, IsOriginalNumber, PairInRange, HasRecords, HasTxn, HasTxns, HasLog, SettlesTo, chain_pairs, originals, wandered, log_blocks, kept_blocks, committed, flushed, home_from, home}
use Rattle.r4_base.proofs.Members.{member_cases, member_here, member_later, no_member}

pub length-put_pairs : (ps : List (ℕ × ℕ)) (image : Image) → length (put_pairs ps image) ≡ length image
length-put_pairs [] image = refl
length-put_pairs (p ∷ ps) image = length-put_pairs ps _ ∙ length-set image p.0 (block_at image p.1)

pub put_both : (ps qs : List (ℕ × ℕ)) (image : Image) → put_pairs (ps ++ qs) image ≡ put_pairs qs (put_pairs ps image)
put_both [] qs image = refl
put_both (p ∷ ps) qs image = put_both ps qs _

abbrev pub firsts : List (ℕ × ℕ) → List ℕ
firsts ps = map (λ p. p.0) ps

abbrev pub seconds : List (ℕ × ℕ) → List ℕ
seconds ps = map (λ p. p.1) ps

pub put_spared : (ps : List (ℕ × ℕ)) (image : Image) (b : ℕ) → (Contains (firsts ps) b → ⊥) → block_at (put_pairs ps image) b ≡ block_at image b
put_spared [] image b out = refl
put_spared (p ∷ ps) image b out = put_spared ps _ b (λ h. out (member_later p.0 (firsts ps) b h)) ∙ get_or-set_other image p.0 b _ [] (λ is. out (member_here p.0 (firsts ps) b is))

-- past the end of both
pub past : (i j : Image) (b : ℕ) → length i ≡ length j → (b < length j → block_at i b ≡ block_at j b) → block_at i b ≡ block_at j b
past i j b long inside = elim (cases_lt b (length j)) [
  | inl lt ↦ inside lt
  | inr ge ↦ get_or_past i b [] (omega (arith, ge, long)) ∙ sym (get_or_past j b [] ge)
]

-- ---- the same log

pub same_records : (image base : Image) (n id head serial at : ℕ) (rs : List ℕ) (ps : List (ℕ × ℕ)) → ((b : ℕ) → Contains rs b → block_at image b ≡ block_at base b) → HasRecords n base id head serial at rs ps → HasRecords n image id head serial at rs ps
same_records image base n id head serial at [] ps same h = h
same_records image base n id head serial at (r ∷ rs) ps same h = (
  h.0,
  h.1,
  h.2,
  h.3,
  ap (λ (l : List ℕ). record_of l) (same r (member_here r rs r refl)) ∙ h.4,
  h.5,
  h.6,
  h.7,
  h.8,
  same_records image base n id head (serial + 1) h.0.next_block rs h.1 (λ b one. same b (member_later r rs b one)) h.9,
)

pub same_txn : (image base : Image) (n : ℕ) (t : Txn) → block_at image t.head ≡ block_at base t.head → ((b : ℕ) → Contains t.records b → block_at image b ≡ block_at base b) → HasTxn n base t → HasTxn n image t
same_txn image base n t same_head same h = record {
  in_range = h.in_range;
  head = ap (λ (l : List ℕ). head_of l) same_head ∙ h.head;
  total = h.total;
  some = h.some;
  fits = h.fits;
  records = same_records image base n t.says.id t.head 1 t.says.next_block t.records t.pairs same h.records;
  few = h.few;
}

pub same_txns : (image base : Image) (n footer at : ℕ) (chain : List Txn) → ((b : ℕ) → Contains (log_blocks chain) b → block_at image b ≡ block_at base b) → HasTxns n base footer at chain → HasTxns n image footer at chain
same_txns image base n footer at [] same h = h
same_txns image base n footer at (t ∷ older) same h = (
  h.0,
  h.1,
  same_txn image base n t (same t.head (member_here t.head _ t.head refl)) (λ b one. same b (member_later t.head _ b (Contains-append_left t.records (log_blocks older) b one))) h.2,
  same_txns image base n footer t.says.prev_tx older (λ b one. same b (member_later t.head _ b (Contains-append_right t.records (log_blocks older) b one))) h.3,
)

-- An image that agrees with another on the header, the footer, the heads and the records has the same log.
pub same_log : (image base : Image) (n : ℕ) (chain : List Txn) → committed image ≡ committed base → flushed image ≡ flushed base → ((b : ℕ) → Contains (log_blocks chain) b → block_at image b ≡ block_at base b) → HasLog n base chain → HasLog n image chain
same_log image base n chain header footer same h = record {
  txns = subst (λ (k : ℕ). HasTxns n image k (committed image) chain) (sym footer) (subst (λ (k : ℕ). HasTxns n image (flushed base) k chain) (sym header) (same_txns image base n _ _ chain same h.txns));
  few = h.few;
  apart = h.apart;
}

-- ---- where the settled content stands

pub put_from : (ps : List (ℕ × ℕ)) (now base : Image) (b so_far : ℕ) → b < length now → ((w : ℕ) → Contains (seconds ps) w → block_at now w ≡ block_at base w) → block_at now b ≡ block_at base so_far
    → ((o : ℕ) → Contains (firsts ps) o → Contains (seconds ps) o → ⊥) → block_at (put_pairs ps now) b ≡ block_at base (home_from ps b so_far)
put_from [] now base b so_far lt same is apart = is
put_from (p ∷ ps) now base b so_far lt same is apart =
    let next : Image = slice_set now p.0 (block_at now p.1) in
    let keeps : (w : ℕ) → Contains (seconds ps) w → block_at next w ≡ block_at base w = λ w one. get_or-set_other now p.0 w _ [] (λ no_copy. apart w (member_here p.0 (firsts ps) w no_copy) (member_later p.1 (seconds ps) w one)) ∙ same w (member_later p.1 (seconds ps) w one) in
    let long : b < length next = omega (arith, lt, length-set now p.0 (block_at now p.1)) in
    let rest : (o : ℕ) → Contains (firsts ps) o → Contains (seconds ps) o → ⊥ = λ o a c. apart o (member_later p.0 (firsts ps) o a) (member_later p.1 (seconds ps) o c) in
    elim (cases_eq b p.0) [
      | inl eq ↦ let test : (b == p.0) ≡ true = grind (arith, nat_tests) in
          put_from ps next base b _ long keeps (ap (λ (k : ℕ). block_at next k) eq ∙ get_or-set_same now p.0 _ [] (omega (arith, lt, eq)) ∙ same p.1 (member_here p.1 (seconds ps) p.1 refl) ∙ ap (λ (k : Bool). block_at base (cond k p.1 so_far)) (sym test)) rest
      | inr other ↦ let test : (b == p.0) ≡ false = grind (arith, nat_tests) in
          put_from ps next base b _ long keeps (get_or-set_other now p.0 b _ [] other ∙ is ∙ ap (λ (k : Bool). block_at base (cond k p.1 so_far)) (sym test)) rest
    ]

apart_pairs : (n : ℕ) (image : Image) (chain : List Txn) → HasLog n image chain → (o : ℕ) → Contains (firsts (chain_pairs chain)) o → Contains (seconds (chain_pairs chain)) o → ⊥
apart_pairs n image chain h o a c = h.apart o a (Contains-append_left (wandered chain) (log_blocks chain) o c)

-- the settled image, block by block
pub settled_at : (image : Image) (n : ℕ) (chain : List Txn) (b : ℕ) → HasLog n image chain → b < length image → block_at (put_pairs (chain_pairs chain) image) b ≡ block_at image (home (chain_pairs chain) b)
settled_at image n chain b h lt = put_from (chain_pairs chain) image image b b lt (λ w one. refl) refl (apart_pairs n image chain h)

-- a home is a wandered block, or no pair has the block for its original
home_is : (ps : List (ℕ × ℕ)) (b so_far : ℕ) → Contains (seconds ps) (home_from ps b so_far) ⊎ ((home_from ps b so_far ≡ so_far) × (Contains (firsts ps) b → ⊥))
home_is [] b so_far = inr (refl, no_member b)
home_is (p ∷ ps) b so_far = ⊎_elim (λ one. inl (member_later p.1 (seconds ps) _ one)) (λ same. elim (cases_eq b p.0) [
  | inl eq ↦ let test : (b == p.0) ≡ true = grind (arith, nat_tests) in inl (member_here p.1 (seconds ps) _ (same.0 ∙ ap (λ (k : Bool). cond k p.1 so_far) test))
  | inr other ↦ let test : (b == p.0) ≡ false = grind (arith, nat_tests) in inr (same.0 ∙ ap (λ (k : Bool). cond k p.1 so_far) test, λ h. ⊎_elim other same.1 (member_cases p.0 (firsts ps) b h))
]) (home_is ps b (cond (b == p.0) p.1 so_far))

pub home_cases : (ps : List (ℕ × ℕ)) (b : ℕ) → Contains (seconds ps) (home ps b) ⊎ ((home ps b ≡ b) × (Contains (firsts ps) b → ⊥))
home_cases ps b = home_is ps b b

-- ---- blocks of a log are at least 22, and its originals are no numbers of the log's own

records_in_range : (n : ℕ) (image : Image) (id head serial at b : ℕ) (rs : List ℕ) (ps : List (ℕ × ℕ)) → HasRecords n image id head serial at rs ps → Contains rs b → InRange n b
records_in_range n image id head serial at b [] ps h one = absurd (no_member b one)
records_in_range n image id head serial at b (r ∷ rs) ps h one = ⊎_elim (λ is. subst (InRange n) (sym is) h.3) (λ more. records_in_range n image id head (serial + 1) h.0.next_block b rs h.1 h.9 more) (member_cases r rs b one)

pub log_in_range : (n : ℕ) (image : Image) (footer at b : ℕ) (chain : List Txn) → HasTxns n image footer at chain → Contains (log_blocks chain) b → InRange n b
log_in_range n image footer at b [] h one = absurd (no_member b one)
log_in_range n image footer at b (t ∷ older) h one = ⊎_elim (λ is. subst (InRange n) (sym is) h.2.in_range) (λ more. ⊎_elim
    (λ r. records_in_range n image t.says.id t.head 1 t.says.next_block b t.records t.pairs h.2.records r)
    (λ later. log_in_range n image footer t.says.prev_tx b older h.3 later)
    (Contains-append_cases t.records (log_blocks older) b more)) (member_cases t.head _ b one)

pairs_in_range : (n : ℕ) (image : Image) (id head serial at : ℕ) (rs : List ℕ) (ps : List (ℕ × ℕ)) → HasRecords n image id head serial at rs ps → All (PairInRange n) ps
pairs_in_range n image id head serial at [] ps h = All-same (PairInRange n) ps [] h.1 (All-nil (PairInRange n))
pairs_in_range n image id head serial at (r ∷ rs) ps h = All-same (PairInRange n) ps _ h.8 (All-append (PairInRange n) h.0.pairs h.1 h.7 (pairs_in_range n image id head (serial + 1) h.0.next_block rs h.1 h.9))

pub chain_in_range : (n : ℕ) (image : Image) (footer at : ℕ) (chain : List Txn) → HasTxns n image footer at chain → All (PairInRange n) (chain_pairs chain)
chain_in_range n image footer at [] h = All-nil (PairInRange n)
chain_in_range n image footer at (t ∷ older) h = All-append (PairInRange n) (chain_pairs older) t.pairs (chain_in_range n image footer t.says.prev_tx older h.3) (pairs_in_range n image t.says.id t.head 1 t.says.next_block t.records t.pairs h.2.records)

pub second_in_range : (n : ℕ) (ps : List (ℕ × ℕ)) (b : ℕ) → All (PairInRange n) ps → Contains (seconds ps) b → InRange n b
second_in_range n [] b range h = absurd (no_member b h)
second_in_range n (p ∷ ps) b range h = ⊎_elim (λ is. subst (InRange n) (sym is) (All-head (PairInRange n) p ps range).1) (λ later. second_in_range n ps b (All-tail (PairInRange n) p ps range) later) (member_cases p.1 (seconds ps) b h)

pub first_in_range : (n : ℕ) (ps : List (ℕ × ℕ)) (b : ℕ) → All (PairInRange n) ps → Contains (firsts ps) b → IsOriginalNumber n b
first_in_range n [] b range h = absurd (no_member b h)
first_in_range n (p ∷ ps) b range h = ⊎_elim (λ is. subst (IsOriginalNumber n) (sym is) (All-head (PairInRange n) p ps range).0) (λ later. first_in_range n ps b (All-tail (PairInRange n) p ps range) later) (member_cases p.0 (firsts ps) b h)

pub original_apart : (n b : ℕ) → IsOriginalNumber n b → (b ≢ 19) × (b ≢ 20)
original_apart n b (inl is) = ((λ e. omega arith), (λ e. omega arith))
original_apart n b (inr (inl is)) = ((λ e. omega arith), (λ e. omega arith))
original_apart n b (inr (inr range)) = ((λ e. omega (arith, range.0)), (λ e. omega (arith, range.0)))

-- An image that differs from another only in blocks that its log does not need settles as that one but for those blocks, and in its originals too.
module _ (n : ℕ) (W : ℕ → Type 0) (base image : Image) (chain : List Txn) (log : HasLog n base chain) (agrees : AgreesOutside W base image)
    (free : (b : ℕ) → W b → Contains (kept_blocks chain) b → ⊥) (header : committed image ≡ committed base) (footer : flushed image ≡ flushed base) where
  same_blocks : (b : ℕ) → Contains (log_blocks chain) b → block_at image b ≡ block_at base b
  same_blocks b one = agrees.others b (λ w. free b w (Contains-append_right (wandered chain) (log_blocks chain) b one))

  pub framed_log : HasLog n image chain
  framed_log = same_log image base n chain header footer same_blocks log

  same_length : length (put_pairs (chain_pairs chain) image) ≡ length (put_pairs (chain_pairs chain) base)
  same_length = length-put_pairs (chain_pairs chain) image ∙ agrees.blocks ∙ sym (length-put_pairs (chain_pairs chain) base)

  pub framed_at : (b : ℕ) → (W b → Contains (originals chain) b) → block_at (put_pairs (chain_pairs chain) image) b ≡ block_at (put_pairs (chain_pairs chain) base) b
  framed_at b ok = past (put_pairs (chain_pairs chain) image) (put_pairs (chain_pairs chain) base) b same_length (λ lt.
      let below : b < length base = omega (arith, lt, length-put_pairs (chain_pairs chain) base) in
      let same_home : block_at image (home (chain_pairs chain) b) ≡ block_at base (home (chain_pairs chain) b) =
      agrees.others _ (λ w. ⊎_elim (λ one. free _ w (Contains-append_left (wandered chain) (log_blocks chain) _ one)) (λ is. is.1 (ok (subst W is.0 w))) (home_cases (chain_pairs chain) b)) in
      settled_at image n chain b framed_log (omega (arith, below, agrees.blocks)) ∙ same_home ∙ sym (settled_at base n chain b log below))

  pub framed : (V : ℕ → Type 0) → ((b : ℕ) → W b → V b ⊎ Contains (originals chain) b) → SettlesTo n V (put_pairs (chain_pairs chain) base) image
  framed V within = record {
    settled = put_pairs (chain_pairs chain) image;
    settles = record { chain = chain; has = framed_log; is = refl };
    agrees = record { blocks = same_length; others = λ b out. framed_at b (λ w. ⊎_elim (λ v. absurd (out v)) (λ o. o) (within b w)) };
  }
