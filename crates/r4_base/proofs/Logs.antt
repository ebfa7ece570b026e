-- The chain of a log as it is found block by block, and as the relation says it: each gives the other.
use Rattle.std.proofs.Common.{◌≡◌, ◌≢◌, ◌⊎◌, inl, inr, ⊎_elim, ℕ, zero, suc, ◌+◌, ◌-◌, ◌≤◌, Bool, true, false, cond, eqb, leb, ltb, List, [], ◌∷◌, ◌++◌, length, Option, Some, None, Result, Ok, Err, refl, sym, ap, subst, ◌∙◌, arith, length-append}
use Rattle.std.specs.Prelude.{All, Contains, MatchResult, ◌&&◌, not}
use Rattle.std.specs.List.{list_all}
use Rattle.std.proofs.lemmas.Bool.{and_from, and_parts, cases_eq, eq-eqb, eqb-true, le-leb, leb-true, ltb-false, not-false}
use Rattle.std.proofs.lemmas.List.Elements.{All-weaker}
use Rattle.std.proofs.lemmas.List.Sums.{AllPass-from_list_all, list_all-from_AllPass}
use Rattle.std.proofs.lemmas.Bool.Decides.{nat_tests}
use Rattle.r4_base.specs.Image.{Image, block_at}
use Rattle.r4_base.specs.Log.{Record, head_of, record_of}
use Rattle.r4_base.specs.Chain.{Txn, InRange, IsOriginalNumber, PairInRange, HasRecords, HasTxn, HasTxns, HasLog, committed, flushed, originals, kept_blocks}
use Rattle.r4_base.specs.Refusal.{Refusal, Found, Head, refuse, then_with, is_log_block, is_original_number, pair_is_in_range, checked_head, head_at, heads_from, checked_record, record_at, records_from, txn_at, txns_at, log_of, IsOverlap, IsRefused}
use Rattle.r4_base.specs.declared.journal.TxHead.{TxHead}
use Rattle.r4_base.specs.declared.journal.LogFault.TheVariants.{Overlap}

-- ---- tests and what they tell

pub log_block_in : (n b : ℕ) → is_log_block n b ≡ true → InRange n b
log_block_in n b e = grind (arith, nat_tests)

pub in_log_block : (n b : ℕ) → InRange n b → is_log_block n b ≡ true
in_log_block n b h = grind (arith, nat_tests)

pub original_in : (n b : ℕ) → is_original_number n b ≡ true → IsOriginalNumber n b
original_in n b e = elim (cases_eq b 17) [
  | inl is ↦ inl is
  | inr apart ↦ elim (cases_eq b 18) [
    | inl is ↦ inr (inl is)
    | inr other ↦ inr (inr (let within : is_log_block n b ≡ true = grind (arith, nat_tests) in log_block_in n b within))
  ]
]

pub in_original : (n b : ℕ) → IsOriginalNumber n b → is_original_number n b ≡ true
in_original n b (inl is) = grind (arith, nat_tests)
in_original n b (inr (inl is)) = grind (arith, nat_tests)
in_original n b (inr (inr within)) = grind (arith, nat_tests)

pub pair_in : (n : ℕ) (p : ℕ × ℕ) → pair_is_in_range n p ≡ true → PairInRange n p
pair_in n p e = let both = and_parts (is_original_number n p.0) (is_log_block n p.1) e in (original_in n p.0 both.0, log_block_in n p.1 both.1)

pub in_pair : (n : ℕ) (p : ℕ × ℕ) → PairInRange n p → pair_is_in_range n p ≡ true
in_pair n p h = and_from (is_original_number n p.0) (is_log_block n p.1) (in_original n p.0 h.0) (in_log_block n p.1 h.1)

-- ---- what an Ok tells

then_ok : {X Y : Type 0} (r : Result X Refusal) (go : X → Result Y Refusal) (y : Y) → then_with r go ≡ Ok y → (x : X) × (r ≡ Ok x) × (go x ≡ Ok y)
then_ok (Ok x) go y e = (x, refl, e)
then_ok (Err f) go y e = absurd (cc)

-- a test that has to hold, and one that has to fail
test_ok : {X : Type 0} (t : Bool) (r : Result X Refusal) (f : Refusal) (y : X) → cond t r (Err f) ≡ Ok y → (t ≡ true) × (r ≡ Ok y)
test_ok true r f y e = (refl, e)
test_ok false r f y e = absurd (cc)

test_no : {X : Type 0} (t : Bool) (r : Result X Refusal) (f : Refusal) (y : X) → cond t (Err f) r ≡ Ok y → (t ≡ false) × (r ≡ Ok y)
test_no true r f y e = absurd (cc)
test_no false r f y e = (refl, e)

apart_by : (a b : ℕ) → eqb a b ≡ false → a ≢ b
apart_by a b e is = let same : eqb a b ≡ true = eq-eqb a b is in absurd (cc)

-- ---- heads

pub record IsHeadAt (n : ℕ) (image : Image) (at : ℕ) (h : TxHead) : Type 0 where
  pub in_range : InRange n at
  pub says : head_of (block_at image at) ≡ Some h
  pub some : 2 ≤ h.total
  pub fits : h.total ≤ n

checked_head_ok : (n at : ℕ) (o : Option TxHead) (h : TxHead) → checked_head n at o ≡ Ok h → (o ≡ Some h) × (2 ≤ h.total) × (h.total ≤ n)
checked_head_ok n at None h e = absurd (cc)
checked_head_ok n at (Some g) h e =
    let t = test_ok (leb 2 g.total && leb g.total n) (Ok g) _ h e in
    let same : g ≡ h = cc (t.1) in
    let both = and_parts (leb 2 g.total) (leb g.total n) t.0 in
    (ap Some same, subst (λ (x : TxHead). 2 ≤ x.total) same (leb-true 2 g.total both.0), subst (λ (x : TxHead). x.total ≤ n) same (leb-true g.total n both.1))

pub head_at_ok : (n : ℕ) (image : Image) (holder at : ℕ) (h : TxHead) → head_at n image holder at ≡ Ok h → IsHeadAt n image at h
unfolding head_at
head_at_ok n image holder at h e =
    let t = test_ok (is_log_block n at) (checked_head n at (head_of (block_at image at))) _ h e in
    let c = checked_head_ok n at (head_of (block_at image at)) h t.1 in
    record { in_range = log_block_in n at t.0; says = c.0; some = c.1; fits = c.2 }

pub head_at_all : (n : ℕ) (image : Image) (holder at : ℕ) (h : TxHead) → IsHeadAt n image at h → head_at n image holder at ≡ Ok h
unfolding head_at
head_at_all n image holder at h is =
    rw (in_log_block n at is.in_range, is.says, and_from (leb 2 h.total) (leb h.total n) (le-leb 2 h.total is.some) (le-leb h.total n is.fits)) refl

-- the heads of a chain
abbrev pub HasHeads : ℕ → Image → (footer at : ℕ) → List Head → Type 0
HasHeads n image footer at [] = at ≡ footer
HasHeads n image footer at (h ∷ older) = (at ≡ h.0) × (at ≢ footer) × IsHeadAt n image at h.1 × HasHeads n image footer h.1.prev_tx older

start_ok : (t : Bool) (r : Result (List Head) Refusal) (hs : List Head) → cond t (Ok []) r ≡ Ok hs → ((t ≡ true) × ([] ≡ hs)) ⊎ ((t ≡ false) × (r ≡ Ok hs))
start_ok true r hs e = inl (refl, cc (e))
start_ok false r hs e = inr (refl, e)

pub heads_ok : (more n : ℕ) (image : Image) (footer holder at : ℕ) (hs : List Head) → heads_from more n image footer holder at ≡ Ok hs → HasHeads n image footer at hs × (length hs ≤ more)
unfolding heads_from
heads_ok zero n image footer holder at hs e = ⊎_elim
    (λ ended. subst (λ (l : List Head). HasHeads n image footer at l × (length l ≤ 0)) ended.1 (eqb-true at footer ended.0, omega arith))
    (λ on. absurd (let none = then_ok (head_at n image holder at) (λ h. refuse {X = List Head} at _) hs on.1 in cc (none.2)))
    (start_ok (eqb at footer) _ hs e)
heads_ok (suc more) n image footer holder at hs e = ⊎_elim
    (λ ended. subst (λ (l : List Head). HasHeads n image footer at l × (length l ≤ suc more)) ended.1 (eqb-true at footer ended.0, omega arith))
    (λ on.
    let a = then_ok (head_at n image holder at) _ hs on.1 in
    let b = then_ok (heads_from more n image footer at a.0.prev_tx) _ hs a.2 in
    let ih = heads_ok more n image footer at a.0.prev_tx b.0 b.1 in
    let same : (at, a.0) ∷ b.0 ≡ hs = cc (b.2) in
    subst (λ (l : List Head). HasHeads n image footer at l × (length l ≤ suc more)) same
    ((refl, apart_by at footer on.0, head_at_ok n image holder at a.0 a.1, ih.0), omega (arith, ih.1)))
    (start_ok (eqb at footer) _ hs e)

pub heads_all : (more n : ℕ) (image : Image) (footer holder at : ℕ) (hs : List Head) → HasHeads n image footer at hs → length hs ≤ more → heads_from more n image footer holder at ≡ Ok hs
unfolding heads_from
heads_all zero n image footer holder at [] h len = rw (eq-eqb at footer h) refl
heads_all zero n image footer holder at (x ∷ older) h len = absurd (omega arith)
heads_all (suc more) n image footer holder at [] h len = rw (eq-eqb at footer h) refl
heads_all (suc more) n image footer holder at (x ∷ older) h len =
    let other : eqb at footer ≡ false = let out : at ≢ footer = h.1 in grind (arith, nat_tests) in
    let first : head_at n image holder at ≡ Ok x.1 = head_at_all n image holder at x.1 h.2 in
    let rest : heads_from more n image footer at x.1.prev_tx ≡ Ok older = heads_all more n image footer at x.1.prev_tx older h.3 (omega arith) in
    rw (other, first, rest) (ap (λ (k : ℕ). Ok ((k, x.1) ∷ older)) h.0)

-- ---- records

-- a record in a log, of this id and serial
pub record IsRecordAt (n : ℕ) (image : Image) (id serial at : ℕ) (r : Record) : Type 0 where
  pub in_range : InRange n at
  pub says : record_of (block_at image at) ≡ Some r
  pub same : r.id ≡ id
  pub in_order : r.serial ≡ serial
  pub pairs : All (PairInRange n) r.pairs

all_in : (n : ℕ) (ps : List (ℕ × ℕ)) → list_all (pair_is_in_range n) ps ≡ true → All (PairInRange n) ps
all_in n ps e = All-weaker (λ p. pair_is_in_range n p ≡ true) (PairInRange n) (pair_in n) ps (AllPass-from_list_all (pair_is_in_range n) ps e)

in_all : (n : ℕ) (ps : List (ℕ × ℕ)) → All (PairInRange n) ps → list_all (pair_is_in_range n) ps ≡ true
in_all n ps h = list_all-from_AllPass (pair_is_in_range n) ps (All-weaker (PairInRange n) (λ p. pair_is_in_range n p ≡ true) (in_pair n) ps h)

pub record_at_ok : (n : ℕ) (image : Image) (id serial before holder at : ℕ) (r : Record) → record_at n image id serial before holder at ≡ Ok r → IsRecordAt n image id serial at r × (before + length r.pairs ≤ n)
unfolding record_at
record_at_ok n image id serial before holder at r e =
    let t = test_ok (is_log_block n at) (checked_record n id serial before at (record_of (block_at image at))) _ r e in
    go (record_of (block_at image at)) refl (log_block_in n at t.0) t.1
  where
    go : (o : Option Record) → record_of (block_at image at) ≡ o → InRange n at → checked_record n id serial before at o ≡ Ok r → IsRecordAt n image id serial at r × (before + length r.pairs ≤ n)
    go None is range f = absurd (cc)
    go (Some s) is range f =
        let a = test_no (not (eqb s.id id)) _ _ r f in
        let b = test_no (not (eqb s.serial serial)) _ _ r a.1 in
        let c = test_no (not (list_all (pair_is_in_range n) s.pairs)) _ _ r b.1 in
        let d = test_no (ltb n (before + length s.pairs)) _ _ r c.1 in
        let same : s ≡ r = cc (d.1) in
        subst (λ (x : Record). IsRecordAt n image id serial at x × (before + length x.pairs ≤ n)) same (
          record {
            in_range = range;
            says = is;
            same = eqb-true s.id id (not-false _ a.0);
            in_order = eqb-true s.serial serial (not-false _ b.0);
            pairs = all_in n s.pairs (not-false _ c.0);
          },
          ltb-false n (before + length s.pairs) d.0,
        )

pub record_at_all : (n : ℕ) (image : Image) (id serial before holder at : ℕ) (r : Record) → IsRecordAt n image id serial at r → before + length r.pairs ≤ n → record_at n image id serial before holder at ≡ Ok r
unfolding record_at
record_at_all n image id serial before holder at r is few =
    let small : ltb n (before + length r.pairs) ≡ false = grind (arith, nat_tests) in
    rw (in_log_block n at is.in_range, is.says, eq-eqb r.id id is.same, eq-eqb r.serial serial is.in_order, in_all n r.pairs is.pairs, small) refl

pub records_ok : (left n : ℕ) (image : Image) (id head serial before holder at : ℕ) (found : Found) → records_from left n image id head serial before holder at ≡ Ok found → before ≤ n
    → HasRecords n image id head serial at found.records found.pairs × (length found.records ≡ left) × (before + length found.pairs ≤ n)
unfolding records_from
records_ok zero n image id head serial before holder at found e few =
    let t = test_ok (eqb at head) (Ok (record { records = []; pairs = [] })) _ found e in
    let same : record { records = []; pairs = [] } ≡ found = cc (t.1) in
    subst (λ (x : Found). HasRecords n image id head serial at x.records x.pairs × (length x.records ≡ 0) × (before + length x.pairs ≤ n)) same
    ((eqb-true at head t.0, refl), refl, omega arith)
records_ok (suc left) n image id head serial before holder at found e few =
    let a = then_ok (record_at n image id serial before holder at) _ found e in
    let r = a.0 in
    let is = record_at_ok n image id serial before holder at r a.1 in
    let b = then_ok (records_from left n image id head (serial + 1) (before + length r.pairs) at r.next_block) _ found a.2 in
    let rest = b.0 in
    let ih = records_ok left n image id head (serial + 1) (before + length r.pairs) at r.next_block rest b.1 is.1 in
    let same : record { records = at ∷ rest.records; pairs = r.pairs ++ rest.pairs } ≡ found = cc (b.2) in
    subst (λ (x : Found). HasRecords n image id head serial at x.records x.pairs × (length x.records ≡ suc left) × (before + length x.pairs ≤ n)) same
    ((r, rest.pairs, refl, is.0.in_range, is.0.says, is.0.same, is.0.in_order, is.0.pairs, refl, ih.0), omega (arith, ih.1), omega (arith, ih.2, length-append r.pairs rest.pairs))

pub records_all : (left n : ℕ) (image : Image) (id head serial before holder at : ℕ) (rs : List ℕ) (ps : List (ℕ × ℕ)) → HasRecords n image id head serial at rs ps → length rs ≡ left → before + length ps ≤ n
    → records_from left n image id head serial before holder at ≡ Ok (record { records = rs; pairs = ps })
unfolding records_from
records_all zero n image id head serial before holder at [] ps h len few = rw (eq-eqb at head h.0) (ap (λ (l : List (ℕ × ℕ)). Ok (record { records = []; pairs = l })) (sym h.1))
records_all (suc left) n image id head serial before holder at [] ps h len few = absurd (omega arith)
records_all zero n image id head serial before holder at (r ∷ rs) ps h len few = absurd (omega arith)
records_all (suc left) n image id head serial before holder at (r ∷ rs) ps h len few =
    let says : Record = h.0 in
    let rest : List (ℕ × ℕ) = h.1 in
    let long : length ps ≡ length says.pairs + length rest = ap length h.8 ∙ length-append says.pairs rest in
    let is : IsRecordAt n image id serial at says = record {
      in_range = subst (InRange n) (sym h.2) h.3;
      says = ap (λ (b : ℕ). record_of (block_at image b)) h.2 ∙ h.4;
      same = h.5;
      in_order = h.6;
      pairs = h.7;
    } in
    let first : record_at n image id serial before holder at ≡ Ok says = record_at_all n image id serial before holder at says is (omega arith) in
    let ih = records_all left n image id head (serial + 1) (before + length says.pairs) at says.next_block rs rest h.9 (omega arith) (omega arith) in
    rw (first, ih) (cc (h.2, h.8))

-- ---- transactions

abbrev pub start_of : Head → Txn → Type 0
start_of h t = (t.head ≡ h.0) × (t.says ≡ h.1)

pub txn_ok : (n : ℕ) (image : Image) (h : Head) (t : Txn) → IsHeadAt n image h.0 h.1 → txn_at n image h ≡ Ok t → HasTxn n image t × start_of h t
unfolding txn_at
txn_ok n image h t is e =
    let a = then_ok (records_from (h.1.total - 1) n image h.1.id h.0 1 0 h.0 h.1.next_block) _ t e in
    let found = a.0 in
    let r = records_ok (h.1.total - 1) n image h.1.id h.0 1 0 h.0 h.1.next_block found a.1 (omega arith) in
    let same : record { head = h.0; says = h.1; records = found.records; pairs = found.pairs } ≡ t = cc (a.2) in
    let some = is.some in
    subst (λ (x : Txn). HasTxn n image x × start_of h x) same (
      record {
        in_range = is.in_range;
        head = is.says;
        total = omega (arith, r.1, some);
        some = omega (arith, r.1, some);
        fits = is.fits;
        records = r.0;
        few = omega (arith, r.2);
      },
      (refl, refl),
    )

pub txn_all : (n : ℕ) (image : Image) (t : Txn) → HasTxn n image t → IsHeadAt n image t.head t.says × (txn_at n image (t.head, t.says) ≡ Ok t)
unfolding txn_at
txn_all n image t has =
    let total = has.total in
    let some = has.some in
    let found = records_all (t.says.total - 1) n image t.says.id t.head 1 0 t.head t.says.next_block t.records t.pairs has.records (omega arith) (omega (arith, has.few)) in
    (record { in_range = has.in_range; says = has.head; some = omega arith; fits = has.fits }, rw found refl)

pub heads_in : List Txn → List Head
heads_in [] = []
heads_in (t ∷ ts) = (t.head, t.says) ∷ heads_in ts

pub txns_ok : (n : ℕ) (image : Image) (footer at : ℕ) (hs : List Head) (ts : List Txn) → HasHeads n image footer at hs → txns_at n image hs ≡ Ok ts → HasTxns n image footer at ts × (length ts ≡ length hs)
unfolding txns_at
txns_ok n image footer at [] ts h e = let same : [] ≡ ts = cc (e) in subst (λ (l : List Txn). HasTxns n image footer at l × (length l ≡ 0)) same (h, refl)
txns_ok n image footer at (x ∷ older) ts h e =
    let a = then_ok (txns_at n image older) _ ts e in
    let b = then_ok (txn_at n image x) _ ts a.2 in
    let t = b.0 in
    let is : IsHeadAt n image x.0 x.1 = subst (λ (k : ℕ). IsHeadAt n image k x.1) h.0 h.2 in
    let one = txn_ok n image x t is b.1 in
    let ih = txns_ok n image footer x.1.prev_tx older a.0 h.3 a.1 in
    let same : t ∷ a.0 ≡ ts = cc (b.2) in
    let prev : x.1.prev_tx ≡ t.says.prev_tx = ap (λ (g : TxHead). g.prev_tx) (sym one.1.1) in
    subst (λ (l : List Txn). HasTxns n image footer at l × (length l ≡ suc (length older))) same
    ((h.0 ∙ sym one.1.0, h.1, one.0, subst (λ (k : ℕ). HasTxns n image footer k a.0) prev ih.0), omega (arith, ih.1))

pub txns_all : (n : ℕ) (image : Image) (footer at : ℕ) (ts : List Txn) → HasTxns n image footer at ts → HasHeads n image footer at (heads_in ts) × (txns_at n image (heads_in ts) ≡ Ok ts) × (length (heads_in ts) ≡ length ts)
unfolding txns_at heads_in
txns_all n image footer at [] h = (h, refl, refl)
txns_all n image footer at (t ∷ older) h =
    let one = txn_all n image t h.2 in
    let ih = txns_all n image footer t.says.prev_tx older h.3 in
    ((h.0, h.1, subst (λ (k : ℕ). IsHeadAt n image k t.says) (sym h.0) one.0, ih.0), rw (ih.1, one.1) refl, omega (arith, ih.2))

-- ---- the log

pub log_ok : (n : ℕ) (image : Image) (chain : List Txn) → log_of n image ≡ Ok chain → HasTxns n image (flushed image) (committed image) chain × (length chain ≤ 8)
unfolding log_of
log_ok n image chain e =
    let a = then_ok (heads_from 8 n image (flushed image) 19 (committed image)) _ chain e in
    let hs = heads_ok 8 n image (flushed image) 19 (committed image) a.0 a.1 in
    let ts = txns_ok n image (flushed image) (committed image) a.0 chain hs.0 a.2 in
    (ts.0, omega (arith, ts.1, hs.1))

pub log_all : (n : ℕ) (image : Image) (chain : List Txn) → HasTxns n image (flushed image) (committed image) chain → length chain ≤ 8 → log_of n image ≡ Ok chain
unfolding log_of
log_all n image chain h few =
    let ts = txns_all n image (flushed image) (committed image) chain h in
    let hs = heads_all 8 n image (flushed image) 19 (committed image) (heads_in chain) ts.0 (omega (arith, ts.2)) in
    rw (hs, ts.1) refl

-- nothing is refused exactly where there is a log
pub has_log : (n : ℕ) (image : Image) (chain : List Txn) → log_of n image ≡ Ok chain → ((b : ℕ) → Contains (originals chain) b → Contains (kept_blocks chain) b → ⊥) → HasLog n image chain
has_log n image chain e apart = let ok = log_ok n image chain e in record { txns = ok.0; few = ok.1; apart = apart }

pub log_has : (n : ℕ) (image : Image) (chain : List Txn) → HasLog n image chain → log_of n image ≡ Ok chain
log_has n image chain has = log_all n image chain has.txns has.few

pub one_log : (n : ℕ) (image : Image) (c d : List Txn) → HasLog n image c → HasLog n image d → c ≡ d
one_log n image c d has too = let e : Ok c ≡ Ok d = sym (log_has n image c has) ∙ log_has n image d too in cc (e)

refused_by : (n : ℕ) (image : Image) (chain : List Txn) (r : Refusal) (found : Result (List Txn) Refusal) → found ≡ Ok chain → MatchResult found (λ c. (r.fault ≡ Overlap) × IsOverlap c r.block) (λ first. first ≡ r) → IsOverlap chain r.block
refused_by n image chain r (Ok c) e h = let same : c ≡ chain = cc (e) in subst (λ (x : List Txn). IsOverlap x r.block) same h.1
refused_by n image chain r (Err f) e h = absurd (cc (e))

-- a log that is refused is no log
pub not_refused : (n : ℕ) (image : Image) (chain : List Txn) (r : Refusal) → HasLog n image chain → IsRefused n image r → ⊥
not_refused n image chain r has no_log =
    let over = refused_by n image chain r (log_of n image) (log_has n image chain has) no_log in
    has.apart r.block over.original over.kept
