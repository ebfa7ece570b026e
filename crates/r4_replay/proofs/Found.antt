-- What is found on a device, step by step, against what its image says.
use Rattle.std.proofs.Common.{◌≡◌, ◌≢◌, ℕ, zero, suc, ◌+◌, ◌-◌, ◌<◌, ◌≤◌, true, false, eqb, List, [], ◌∷◌, ◌++◌, length, map, reverse, Result, Ok, Err, refl, sym, ap, subst, ◌∙◌, arith, append_assoc, length-append}
use Rattle.std.specs.Result.{IsErrAnd}
use Rattle.std.proofs.lemmas.Bool.{eq-eqb}
use Rattle.std.proofs.lemmas.List.{append-nil, map-append, reverse-append}
use Rattle.std.specs.Global.{Vec}
use Rattle.std.proofs.lemmas.Bool.Decides.{nat_tests}
use Rattle.r4_base.specs.Image.{Image, block_at}
use Rattle.r4_base.specs.Log.{Record, head_of, record_of}
use Rattle.r4_base.specs.Refusal.{Refusal, Head, refuse, then_with, is_log_block, checked_head, head_at, heads_from, checked_record, record_at, records_from, txn_at, txns_at, Found}
use Rattle.r4_base.specs.declared.journal.TxHead.{TxHead}
use Rattle.r4_base.specs.declared.journal.LogFault.TheVariants.{Range, Long, Circle}
use Rattle.r4_outside.specs.Device.{State, TellsReads}
use Rattle.r4_outside.proofs.Moments.{goes_same, goes_both}
use Rattle.r4_replay.specs.declared.fault.Stop.{Stop}
use Rattle.r4_replay.specs.declared.fault.Stop.TheVariants.{Failed, Memory, Log}
use Rattle.r4_replay.specs.Reading.{Idles, Finds, as_stop}
use Rattle.r4_replay.specs.Txns.{txn_shown, JudgesRecord, FindsRecord, HasTaken}
use Rattle.r4_replay.specs.Chains.{chain_of, InRangeAll}
use Rattle.r4_replay.specs.declared.txn.Txn.{Txn as TxnHere}
use Rattle.r4_base.specs.Chain.{Txn, PairInRange}
use Rattle.std.specs.Prelude.{All}
use Rattle.std.proofs.lemmas.List.Elements.{All-nil, All-push}
use Rattle.r4_replay.specs.Heads.{head_shown, heads_shown}
use Rattle.r4_replay.specs.declared.heads.Head.{Head as HeadHere}

pub idles_same : (d : State) → Idles d d
idles_same d = record { goes = goes_same d; seen = refl; clock = refl }

pub idles_both : (a b c : State) → Idles a b → Idles b c → Idles a c
idles_both a b c f g = record { goes = goes_both a b c f.goes g.goes; seen = g.seen ∙ f.seen; clock = g.clock ∙ f.clock }

-- what was judged of the bytes that were read
pub finds_judged : {X : Type 0} (old new : State) (says judged : Result X Refusal) (result : Result X Stop) → result ≡ as_stop judged → (TellsReads old → says ≡ judged) → Finds (λ x. x) old says result new
finds_judged {X} old new says (Ok x) result e same = subst (λ (r : Result X Stop). Finds (λ y. y) old says r new) (sym e) same
finds_judged {X} old new says (Err f) result e same = subst (λ (r : Result X Stop). Finds (λ y. y) old says r new) (sym e) same

-- what is said of an image, on a device that was only read since
pub found_at : (F : Image → Type 0) (old mid : State) → Idles old mid → TellsReads old → (TellsReads mid → F mid.seen) → F old.seen
found_at F old mid idles tells found = subst F idles.seen (found (idles.goes.reads.1 tells))

-- an error that a `?` hands on
pub handed : {T : Type 0} (r : Result T Stop) (e : Stop) → IsErrAnd r (λ y. y ≡ e) → r ≡ Err e
handed {T} (Ok x) e h = absurd h
handed {T} (Err y) e h = ap Err h

-- A stop in a step is one of the whole.
pub stops : {X Y Z W : Type 0} (inner : Y → X) (outer : W → Z) (old mid new : State) (part : Image → Result X Refusal) (whole : Result Z Refusal) (e : Stop) (result : Result W Stop)
    → Idles old mid → (TellsReads old → (r : Refusal) → part old.seen ≡ Err r → whole ≡ Err r)
    → Finds inner mid (part mid.seen) (Err e) new → result ≡ Err e → Finds outer old whole result new
stops {X} {Y} {Z} {W} inner outer old mid new part whole (Log b f) result idles goes_on finds is =
    subst (λ (r : Result W Stop). Finds outer old whole r new) (sym is)
    (λ tells. goes_on tells _ (found_at (λ i. part i ≡ Err (record { block = b; fault = f })) old mid idles tells finds))
stops {X} {Y} {Z} {W} inner outer old mid new part whole Failed result idles goes_on finds is =
    subst (λ (r : Result W Stop). Finds outer old whole r new) (sym is) (let before = idles.goes.faults in omega (arith, finds, before))
stops {X} {Y} {Z} {W} inner outer old mid new part whole Memory result idles goes_on finds is =
    subst (λ (r : Result W Stop). Finds outer old whole r new) (sym is) tt

-- ---- heads

pub head_out : (n : ℕ) (image : Image) (holder at : ℕ) → is_log_block n at ≡ false → head_at n image holder at ≡ refuse holder Range
unfolding head_at
head_out n image holder at e = rw e refl

pub head_read : (n : ℕ) (image : Image) (holder at : ℕ) (b : List ℕ) → is_log_block n at ≡ true → b ≡ block_at image at → head_at n image holder at ≡ checked_head n at (head_of b)
unfolding head_at
head_read n image holder at b e is = rw (e, is) refl

-- these heads, and then what is found behind them
abbrev pub after_heads : List Head → Result (List Head) Refusal → Result (List Head) Refusal
after_heads hs r = then_with r (λ older. Ok (hs ++ older))

pub after_none : (r : Result (List Head) Refusal) → r ≡ after_heads [] r
after_none (Ok x) = refl
after_none (Err f) = refl

after_one : (hs : List Head) (h : Head) (r : Result (List Head) Refusal) → after_heads hs (then_with r (λ older. Ok (h ∷ older))) ≡ after_heads (hs ++ h ∷ []) r
after_one hs h (Ok x) = ap Ok (sym (append_assoc hs (h ∷ []) x))
after_one hs h (Err f) = refl

apart_test : (a b : ℕ) → a ≢ b → eqb a b ≡ false
apart_test a b ne = grind (arith, nat_tests)

module _ (n : ℕ) (image : Image) (footer holder at : ℕ) (hs : List Head) where
  pub heads_end : (m : ℕ) → at ≡ footer → after_heads hs (heads_from m n image footer holder at) ≡ Ok hs
  unfolding heads_from
  heads_end zero e = rw (eq-eqb at footer e) (ap Ok (append-nil hs))
  heads_end (suc m) e = rw (eq-eqb at footer e) (ap Ok (append-nil hs))

  pub heads_more : (k : ℕ) (says : TxHead) → k < 8 → at ≢ footer → head_at n image holder at ≡ Ok says → after_heads hs (heads_from (8 - k) n image footer holder at) ≡ after_heads (hs ++ (at, says) ∷ []) (heads_from (8 - (k + 1)) n image footer at says.prev_tx)
  unfolding heads_from
  heads_more k says lt ne e =
      let left : 8 - k ≡ suc (8 - (k + 1)) = omega arith in
      rw (left, apart_test at footer ne, e) (after_one hs (at, says) (heads_from (8 - (k + 1)) n image footer at says.prev_tx))

  pub heads_fault : (m : ℕ) (r : Refusal) → at ≢ footer → head_at n image holder at ≡ Err r → after_heads hs (heads_from m n image footer holder at) ≡ Err r
  unfolding heads_from
  heads_fault zero r ne e = rw (apart_test at footer ne, e) refl
  heads_fault (suc m) r ne e = rw (apart_test at footer ne, e) refl

  pub heads_long : (k : ℕ) (says : TxHead) → 8 ≤ k → at ≢ footer → head_at n image holder at ≡ Ok says → after_heads hs (heads_from (8 - k) n image footer holder at) ≡ refuse at Long
  unfolding heads_from
  heads_long k says all ne e = let none : 8 - k ≡ 0 = omega arith in rw (none, apart_test at footer ne, e) refl

-- one head more
pub push_shown : (heads new : Vec HeadHere) (at : ℕ) (says : TxHead) → new.items ≡ heads.items ++ record { at = at; says = says } ∷ [] → heads_shown new ≡ heads_shown heads ++ (at, says) ∷ []
push_shown heads new at says e = ap (λ (l : List HeadHere). map head_shown l) e ∙ map-append head_shown heads.items (record { at = at; says = says } ∷ [])

-- ---- records

pub record_out : (n : ℕ) (image : Image) (id serial before holder at : ℕ) → is_log_block n at ≡ false → record_at n image id serial before holder at ≡ refuse holder Range
unfolding record_at
record_out n image id serial before holder at e = rw e refl

pub record_read : (n : ℕ) (image : Image) (id serial before holder at : ℕ) (b : List ℕ) → is_log_block n at ≡ true → b ≡ block_at image at → record_at n image id serial before holder at ≡ checked_record n id serial before at (record_of b)
unfolding record_at
record_read n image id serial before holder at b e is = rw (e, is) refl

-- what was judged of a record's bytes
pub finds_record : (old new : State) (says judged : Result Record Refusal) (before after : List (ℕ × ℕ)) (result : Result ℕ Stop) → JudgesRecord judged before after result → (TellsReads old → says ≡ judged) → FindsRecord old says before after result new
finds_record old new says judged before after (Ok next) h same = λ tells. record { found = h.found; says_so = same tells ∙ h.says_so; goes_on = h.goes_on; taken = h.taken }
finds_record old new says judged before after (Err (Log b f)) h same = λ tells. same tells ∙ h
finds_record old new says judged before after (Err Memory) h same = tt
finds_record old new says judged before after (Err Failed) h same = absurd h

-- these records with these pairs, and then what is found behind them
abbrev pub after_records : List ℕ → List (ℕ × ℕ) → Result Found Refusal → Result Found Refusal
after_records rs ps r = then_with r (λ rest. Ok (record { records = rs ++ rest.records; pairs = ps ++ rest.pairs }))

pub after_no_records : (r : Result Found Refusal) → r ≡ after_records [] [] r
after_no_records (Ok x) = refl
after_no_records (Err f) = refl

after_one_record : (rs : List ℕ) (ps : List (ℕ × ℕ)) (at : ℕ) (qs : List (ℕ × ℕ)) (r : Result Found Refusal)
    → after_records rs ps (then_with r (λ rest. Ok (record { records = at ∷ rest.records; pairs = qs ++ rest.pairs }))) ≡ after_records (rs ++ at ∷ []) (ps ++ qs) r
after_one_record rs ps at qs (Ok x) = let a = append_assoc rs (at ∷ []) x.records in let b = append_assoc ps qs x.pairs in rw (a, b) refl
after_one_record rs ps at qs (Err f) = refl

module _ (n : ℕ) (image : Image) (id head holder at : ℕ) (rs : List ℕ) (ps : List (ℕ × ℕ)) where
  pub records_more : (total serial before : ℕ) (r : Record) → serial < total → record_at n image id serial before holder at ≡ Ok r
      → after_records rs ps (records_from (total - serial) n image id head serial before holder at) ≡ after_records (rs ++ at ∷ []) (ps ++ r.pairs) (records_from (total - (serial + 1)) n image id head (serial + 1) (before + length r.pairs) at r.next_block)
  unfolding records_from
  records_more total serial before r lt e =
      let left : total - serial ≡ suc (total - (serial + 1)) = omega arith in
      rw (left, e) (after_one_record rs ps at r.pairs (records_from (total - (serial + 1)) n image id head (serial + 1) (before + length r.pairs) at r.next_block))

  pub records_step : (total serial next : ℕ) (new_rs : List ℕ) (after : List (ℕ × ℕ)) → serial < total → new_rs ≡ rs ++ at ∷ [] → HasTaken (record_at n image id serial (length ps) holder at) ps after next
      → after_records rs ps (records_from (total - serial) n image id head serial (length ps) holder at) ≡ after_records new_rs after (records_from (total - (serial + 1)) n image id head (serial + 1) (length after) at next)
  records_step total serial next new_rs after lt push t = rw (push, t.taken, t.goes_on, length-append ps t.found.pairs) (records_more total serial (length ps) t.found lt t.says_so)

  pub records_fault : (total serial before : ℕ) (f : Refusal) → serial < total → record_at n image id serial before holder at ≡ Err f → after_records rs ps (records_from (total - serial) n image id head serial before holder at) ≡ Err f
  unfolding records_from
  records_fault total serial before f lt e = let left : total - serial ≡ suc (total - (serial + 1)) = omega arith in rw (left, e) refl

  pub records_end : (total serial before : ℕ) → total ≤ serial → at ≡ head → after_records rs ps (records_from (total - serial) n image id head serial before holder at) ≡ Ok (record { records = rs; pairs = ps })
  unfolding records_from
  records_end total serial before ge e =
      let left : total - serial ≡ 0 = omega arith in
      let a = append-nil rs in
      let b = append-nil ps in
      rw (left, eq-eqb at head e, a, b) refl

  pub records_circle : (total serial before : ℕ) → total ≤ serial → at ≢ head → after_records rs ps (records_from (total - serial) n image id head serial before holder at) ≡ refuse holder Circle
  unfolding records_from
  records_circle total serial before ge ne = let left : total - serial ≡ 0 = omega arith in rw (left, apart_test at head ne) refl

-- from the records of a head to its transaction
pub txn_found : (n : ℕ) (image : Image) (h : Head) (found : Found) → records_from (h.1.total - 1) n image h.1.id h.0 1 0 h.0 h.1.next_block ≡ Ok found
    → txn_at n image h ≡ Ok (record { head = h.0; says = h.1; records = found.records; pairs = found.pairs })
unfolding txn_at
txn_found n image h found e = rw e refl

pub txn_refused : (n : ℕ) (image : Image) (h : Head) (r : Refusal) → records_from (h.1.total - 1) n image h.1.id h.0 1 0 h.0 h.1.next_block ≡ Err r → txn_at n image h ≡ Err r
unfolding txn_at
txn_refused n image h r e = rw e refl

-- ---- transactions

-- these heads' transactions, before those that were read already
abbrev pub txns_onto : ℕ → Image → List Head → List Txn → Result (List Txn) Refusal
txns_onto n image [] ts = Ok ts
txns_onto n image (h ∷ older) ts = then_with (txns_onto n image older ts) (λ us. then_with (txn_at n image h) (λ t. Ok (t ∷ us)))

pub onto_none : (n : ℕ) (image : Image) (hs : List Head) → txns_at n image hs ≡ txns_onto n image hs []
unfolding txns_at
onto_none n image [] = refl
onto_none n image (h ∷ older) = rw (onto_none n image older) refl

pub onto_push : (n : ℕ) (image : Image) (hs : List Head) (h : Head) (ts : List Txn) (t : Txn) → txn_at n image h ≡ Ok t → txns_onto n image (hs ++ h ∷ []) ts ≡ txns_onto n image hs (t ∷ ts)
onto_push n image [] h ts t e = rw e refl
onto_push n image (x ∷ hs) h ts t e = rw (onto_push n image hs h ts t e) refl

pub onto_fault : (n : ℕ) (image : Image) (hs : List Head) (h : Head) (ts : List Txn) (r : Refusal) → txn_at n image h ≡ Err r → txns_onto n image (hs ++ h ∷ []) ts ≡ Err r
onto_fault n image [] h ts r e = rw e refl
onto_fault n image (x ∷ hs) h ts r e = rw (onto_fault n image hs h ts r e) refl

-- one head was taken off, and its transaction added
pub popped_shown : (old new : Vec HeadHere) (h : HeadHere) → old.items ≡ new.items ++ h ∷ [] → heads_shown old ≡ heads_shown new ++ head_shown h ∷ []
popped_shown old new h e = ap (λ (l : List HeadHere). map head_shown l) e ∙ map-append head_shown new.items (h ∷ [])

pub pushed_chain : (old new : Vec TxnHere) (t : TxnHere) → new.items ≡ old.items ++ t ∷ [] → chain_of new ≡ txn_shown t ∷ chain_of old
pushed_chain old new t e = ap (λ (l : List TxnHere). reverse (map txn_shown l)) e ∙ ap (λ (l : List Txn). reverse l) (map-append txn_shown old.items (t ∷ [])) ∙ reverse-append (map txn_shown old.items) (txn_shown t ∷ [])

pub range_push : (n : ℕ) (old new : Vec TxnHere) (t : TxnHere) → new.items ≡ old.items ++ t ∷ [] → InRangeAll n old.items → All (PairInRange n) t.pairs.items → InRangeAll n new.items
range_push n old new t e all one = subst (InRangeAll n) (sym e) (All-push (λ (u : TxnHere). All (PairInRange n) u.pairs.items) old.items t all one)

pub range_none : (n : ℕ) (new : Vec TxnHere) → new.items ≡ [] → InRangeAll n new.items
range_none n new e = subst (InRangeAll n) (sym e) (All-nil (λ (u : TxnHere). All (PairInRange n) u.pairs.items))

pub no_chain : (new : Vec TxnHere) → new.items ≡ [] → chain_of new ≡ []
no_chain new e = ap (λ (l : List TxnHere). reverse (map txn_shown l)) e
