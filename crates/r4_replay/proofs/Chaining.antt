-- The transactions of a chain put in place one after the other.
use Rattle.std.proofs.Common.{◌≡◌, inl, inr, ⊎_elim, ℕ, suc, ◌+◌, ◌<◌, List, [], ◌∷◌, ◌++◌, length, take, drop, get_or, map, reverse, slice_set, refl, sym, ◌∙◌, ap, subst, arith, add-one, drop-cons, get_or-set_same}
use Rattle.std.proofs.lemmas.List.{map-append, reverse-append, take_more, take_at, drop_at, drop-drop, get_or-take, length-append, append_assoc}
use Rattle.std.proofs.lemmas.Bool.{cases_lt}
use Rattle.r4_base.specs.Image.{Image, block_at, sector, put_pairs, AgreesOutside}
use Rattle.r4_base.specs.Bytes.{put_all, overwrite, number_bytes, fields_bytes, width_of}
use Rattle.r4_base.specs.declared.journal.Footer.{Footer}
use Rattle.r4_base.proofs.Numbers.{length-number_bytes, length-fields_bytes, number_at-same}
use Rattle.r4_base.specs.Log.{footer_fields, footer_of}
use Rattle.r4_base.specs.Chain.{Txn, HasLog, SettlesTo, is_footer, chain_pairs}
use Rattle.r4_base.proofs.Frame.{past, length-put_pairs}
use Rattle.r4_base.proofs.Again.{while_copied, while_footed, after_log, after_settled, settles_back, agrees_back}
use Rattle.r4_outside.specs.Device.{State, Goes, IsQuiet, LeavesOnly, TellsReads, only}
use Rattle.r4_outside.proofs.Moments.{left_before, reads_of, only_one, has_now}
use Rattle.r4_replay.specs.declared.txn.Txn.{Txn as TxnHere}
use Rattle.r4_replay.specs.Txns.{txn_shown, chain_shown}
use Rattle.r4_replay.specs.Replay.{footer_naming, footer_after}
use Rattle.r4_replay.specs.Placing.{LeftByPut}

-- Some of the chain is put in place, and the rest is the log; `footer` is what the footer's block holds, where it began so.
pub record IsUnderWay (old : State) (chain : List Txn) (began : List ℕ) (now : State) (rest done : List Txn) (footer : List ℕ) : Type 0 where
  pub log : HasLog old.blocks old.seen chain → HasLog old.blocks now.seen rest
  pub settled : HasLog old.blocks old.seen chain → AgreesOutside is_footer (put_pairs (chain_pairs chain) old.seen) (put_pairs (chain_pairs rest) now.seen)
  pub spelled : footer ≡ footer_after done began
  pub holds : HasLog old.blocks old.seen chain → began ≡ block_at old.seen 20 → block_at now.seen 20 ≡ footer

-- The device is quiet, and each moment so far left what settles as at first.
pub record IsSafeSoFar (old : State) (chain : List Txn) (now : State) : Type 0 where
  pub quiet : IsQuiet now
  pub always : HasLog old.blocks old.seen chain → LeavesOnly old now (SettlesTo old.blocks is_footer (put_pairs (chain_pairs chain) old.seen))

-- ---- the footer's block, written over and over

over : (at : ℕ) (front ys rest : List ℕ) (k : ℕ) → length front ≡ at → length ys ≡ k → overwrite at ys (front ++ rest) ≡ (front ++ ys) ++ drop k rest
unfolding overwrite
over at front ys rest k len n =
    let past_it : drop (at + length ys) (front ++ rest) ≡ drop k rest = sym (drop-drop (length ys) at (front ++ rest)) ∙ rw (drop_at front rest at len, n) refl in
    rw (take_at front rest at len, past_it) (sym (append_assoc front ys (drop k rest)))

put_front : (fs : List (ℕ × ℕ)) (at : ℕ) (front rest : List ℕ) → length front ≡ at → put_all fs at (front ++ rest) ≡ front ++ (fields_bytes fs ++ drop (width_of fs) rest)
put_front [] at front rest len = refl
put_front (f ∷ fs) at front rest len =
    let bytes = number_bytes f.0 f.1 in
    let n : length bytes ≡ f.0 = length-number_bytes f.0 f.1 in
    let one : overwrite at bytes (front ++ rest) ≡ (front ++ bytes) ++ drop f.0 rest = over at front bytes rest f.0 len n in
    let ih = put_front fs (at + f.0) (front ++ bytes) (drop f.0 rest) (omega (arith, length-append front bytes)) in
    rw (one, ih, drop-drop (width_of fs) f.0 rest) (simp append_assoc)

footer_front : (f : Footer) (b : List ℕ) → put_all (footer_fields f) 0 b ≡ fields_bytes (footer_fields f) ++ drop 32 b
footer_front f b = put_front (footer_fields f) 0 [] b refl

-- what is written last stands
pub footer_again : (f h : Footer) (b : List ℕ) → put_all (footer_fields f) 0 (put_all (footer_fields h) 0 b) ≡ put_all (footer_fields f) 0 b
footer_again f h b =
    let long : length (fields_bytes (footer_fields h)) ≡ 32 = length-fields_bytes (footer_fields h) in
    footer_front f (put_all (footer_fields h) 0 b) ∙ ap (λ (l : List ℕ). fields_bytes (footer_fields f) ++ drop 32 l) (footer_front h b)
    ∙ ap (λ (l : List ℕ). fields_bytes (footer_fields f) ++ l) (drop_at (fields_bytes (footer_fields h)) (drop 32 b) 32 long) ∙ sym (footer_front f b)

named_after : (t : Txn) (done : List Txn) (began : List ℕ) → put_all (footer_fields (footer_naming t)) 0 (footer_after done began) ≡ footer_after (t ∷ done) began
named_after t [] began = refl
named_after t (u ∷ done) began = footer_again (footer_naming t) (footer_naming u) began

-- ---- one transaction taken off the rest

pub rest_one : (txns : List TxnHere) (i : ℕ) (t : TxnHere) → i < length txns → t ≡ get_or txns i t → chain_shown (drop i txns) ≡ chain_shown (drop (i + 1) txns) ++ txn_shown t ∷ []
rest_one txns i t lt is =
    let split : drop i txns ≡ t ∷ drop (i + 1) txns = rw add-one (drop-cons txns i t lt ∙ ap (λ (u : TxnHere). u ∷ drop (suc i) txns) (sym is)) in
    ap chain_shown split ∙ reverse-append (txn_shown t ∷ []) (map txn_shown (drop (i + 1) txns))

pub done_one : (txns : List TxnHere) (i : ℕ) (t : TxnHere) → i < length txns → t ≡ get_or txns i t → chain_shown (take (i + 1) txns) ≡ txn_shown t ∷ chain_shown (take i txns)
done_one txns i t lt is =
    let more : take (i + 1) txns ≡ take i txns ++ t ∷ [] = take_more txns i t lt ∙ ap (λ (u : TxnHere). take i txns ++ u ∷ []) (sym is) in
    ap chain_shown more ∙ ap (λ (l : List Txn). reverse l) (map-append txn_shown (take i txns) (t ∷ [])) ∙ reverse-append (map txn_shown (take i txns)) (txn_shown t ∷ [])

-- ---- a number at the head of a block lies in one sector

first_footer : (x y : List ℕ) → sector x 0 ≡ sector y 0 → (footer_of x).last ≡ (footer_of y).last
unfolding footer_of
first_footer x y same = number_at-same 8 0 x y (λ k lo hi. sym (get_or-take 512 x k 0 (omega arith)) ∙ ap (λ (l : List ℕ). get_or l k 0) same ∙ get_or-take 512 y k 0 (omega arith))

module _ (n : ℕ) (base : Image) (newer : List Txn) (t : Txn) (footer : List ℕ) (log : HasLog n base (newer ++ t ∷ [])) (long : length base ≡ n) (more : 20 < n) (named : (footer_of footer).last ≡ t.head) where
  abbrev placed : Image
  placed = put_pairs t.pairs base

  long_placed : length placed ≡ n
  long_placed = length-put_pairs t.pairs base ∙ long

  pub one_image : (image : Image) → LeftByPut t.pairs footer base image → SettlesTo n is_footer (put_pairs (chain_pairs (newer ++ t ∷ [])) base) image
  one_image image (inl agrees) = while_copied n base newer t footer log long more named image agrees
  one_image image (inr torn) = while_footed n base newer t footer log long more named image
      (record { blocks = torn.blocks; others = λ b other. past image placed b torn.blocks (λ lt. torn.others b lt other) })
      (⊎_elim (λ old. inl (first_footer (block_at image 20) (block_at placed 20) old)) (λ new. inr (first_footer (block_at image 20) footer new ∙ named)) (torn.sectors 0 (omega arith)))

-- moments of two runs of calls, one after the other
pub leaves_more : (old mid new : State) (P : Image → Type 0) → Goes mid new → LeavesOnly old mid P → LeavesOnly mid new P → LeavesOnly old new P
leaves_more old mid new P goes first second = record {
  each = λ m image lo hi left. elim (cases_lt mid.clock m) [
    | inl lt ↦ second.each m image (omega (arith, lt)) hi left
    | inr ge ↦ first.each m image lo ge (left_before mid new m image goes ge left)
  ];
}

-- ---- one turn

module _ (old mid new : State) (chain : List Txn) (began : List ℕ) (newer : List Txn) (t : Txn) (done : List Txn) (footer next : List ℕ)
    (went : Goes old mid) (goes : Goes mid new) (more : 20 < old.blocks) (spelled : next ≡ put_all (footer_fields (footer_naming t)) 0 footer) (named : (footer_of next).last ≡ t.head)
    (under : TellsReads old → IsUnderWay old chain began mid (newer ++ t ∷ []) done footer) where
  long_mid : TellsReads old → length mid.seen ≡ old.blocks
  long_mid tells = let now = went.reads.1 tells in now.blocks ∙ went.blocks

  pub turn_under_way : (TellsReads mid → new.seen ≡ slice_set (put_pairs t.pairs mid.seen) 20 next) → TellsReads old → IsUnderWay old chain began new newer (t ∷ done) next
  turn_under_way put tells =
      let u = under tells in
      let now : new.seen ≡ slice_set (put_pairs t.pairs mid.seen) 20 next = put (went.reads.1 tells) in
      let long = long_mid tells in
      record {
        log = λ has. subst (λ (i : Image). HasLog old.blocks i newer) (sym now) (after_log old.blocks mid.seen newer t next (u.log has) long more named);
        settled = λ has. subst (λ (i : Image). AgreesOutside is_footer (put_pairs (chain_pairs chain) old.seen) (put_pairs (chain_pairs newer) i)) (sym now)
            (agrees_back (put_pairs (chain_pairs chain) old.seen) (put_pairs (chain_pairs (newer ++ t ∷ [])) mid.seen) _ (u.settled has) (after_settled old.blocks mid.seen newer t next (u.log has) long more named));
        spelled = spelled ∙ ap (λ (l : List ℕ). put_all (footer_fields (footer_naming t)) 0 l) u.spelled ∙ named_after t done began;
        holds = λ has is. ap (λ (i : Image). block_at i 20) now ∙ get_or-set_same (put_pairs t.pairs mid.seen) 20 next [] (omega (arith, more, long, length-put_pairs t.pairs mid.seen));
      }

  pub turn_always : IsQuiet old → IsSafeSoFar old chain mid → (IsQuiet mid → LeavesOnly mid new (LeftByPut t.pairs next mid.seen)) → HasLog old.blocks old.seen chain → LeavesOnly old new (SettlesTo old.blocks is_footer (put_pairs (chain_pairs chain) old.seen))
  turn_always quiet safe moment has =
      let tells = reads_of old quiet.tells in
      let u = under tells in
      let left = moment safe.quiet in
      leaves_more old mid new _ goes (safe.always has) (record {
        each = λ m image lo hi may.
            settles_back old.blocks (put_pairs (chain_pairs chain) old.seen) (put_pairs (chain_pairs (newer ++ t ∷ [])) mid.seen) image (u.settled has)
            (one_image old.blocks mid.seen newer t next (u.log has) (long_mid tells) more named image (left.each m image lo hi may));
      })

pub begins : (old : State) (chain : List Txn) (began : List ℕ) → IsUnderWay old chain began old chain [] began
begins old chain began = record { log = λ has. has; settled = λ has. record { blocks = refl; others = λ b out. refl }; spelled = refl; holds = λ has is. sym is }

pub safe_at_first : (old : State) (chain : List Txn) → IsQuiet old → IsSafeSoFar old chain old
safe_at_first old chain quiet = record {
  quiet = quiet;
  always = λ has. record {
    each = λ m image lo hi left.
        let now : m ≡ old.clock = omega (arith, lo, hi) in
        let same : image ≡ old.seen = only_one old.blocks (old.may_hold old.clock) old.seen image quiet.tells (has_now old (only old.seen) m image quiet.within now left) in
        subst (λ (i : Image). SettlesTo old.blocks is_footer (put_pairs (chain_pairs chain) old.seen) i) (sym same) (record { settled = put_pairs (chain_pairs chain) old.seen; settles = record { chain = chain; has = has; is = refl }; agrees = record { blocks = refl; others = λ b out. refl } });
  };
}

pub rest_is : (old : State) (chain : List Txn) (began : List ℕ) (now : State) (rest other done : List Txn) (footer : List ℕ) → rest ≡ other → IsUnderWay old chain began now rest done footer → IsUnderWay old chain began now other done footer
rest_is old chain began now rest other done footer e u = subst (λ (l : List Txn). IsUnderWay old chain began now l done footer) e u

pub done_is : (old : State) (chain : List Txn) (began : List ℕ) (now : State) (rest done other : List Txn) (footer : List ℕ) → other ≡ done → IsUnderWay old chain began now rest done footer → IsUnderWay old chain began now rest other footer
done_is old chain began now rest done other footer e u = subst (λ (l : List Txn). IsUnderWay old chain began now rest l footer) (sym e) u

pub never_zero : {X : Type 0} (i : ℕ) → i + 1 ≡ 0 → X
never_zero {X} i e = absurd (omega (arith, e))
