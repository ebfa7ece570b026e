-- The whole replay, from reading and putting in place.
use Rattle.std.proofs.Common.{◌≡◌, ◌≢◌, ℕ, List, length, map, refl, sym, ◌∙◌, ap, subst, arith}
use Rattle.std.specs.Prelude.{Contains}
use Rattle.std.proofs.lemmas.List.{length-map, length-reverse}
use Rattle.r4_base.specs.Image.{Image, block_at, put_pairs, AgreesOutside}
use Rattle.r4_base.specs.Chain.{Txn, HasLog, SettlesTo, is_footer, chain_pairs, committed, flushed, originals}
use Rattle.r4_base.specs.Log.{header_of}
use Rattle.r4_base.proofs.Frame.{chain_in_range, first_in_range, original_apart, put_spared}
use Rattle.r4_base.proofs.Logs.{one_log, not_refused}
use Rattle.r4_outside.specs.Device.{State, Goes, IsQuiet, LeavesOnly, TellsReads, Untouched}
use Rattle.r4_replay.specs.declared.txn.Txn.{Txn as TxnHere}
use Rattle.r4_replay.specs.Txns.{txn_shown, chain_shown}
use Rattle.r4_outside.proofs.Moments.{quiet_on}
use Rattle.r4_replay.specs.Reading.{Idles}
use Rattle.r4_replay.specs.Placing.{IsPlaced}
use Rattle.r4_replay.specs.Replay.{IsNamed, SettlesAlike, SettlesAlways, PutInPlace, footer_after}

-- a log stays while the device is only read
log_later : (old mid : State) (chain : List Txn) → Idles old mid → HasLog old.blocks old.seen chain → HasLog mid.blocks mid.seen chain
log_later old mid chain idles has = subst (λ (i : Image). HasLog mid.blocks i chain) (sym idles.seen) (subst (λ (n : ℕ). HasLog n old.seen chain) (sym idles.goes.blocks) has)

-- a device stays quiet while it is only read
pub quiet_idle : (old mid : State) → Idles old mid → IsQuiet old → IsQuiet mid
quiet_idle old mid idles quiet = quiet_on old mid idles.goes idles.seen idles.clock quiet

-- what one chain settles to, seen from any
pub alike : (n : ℕ) (base image : Image) (chain : List Txn) → HasLog n base chain → SettlesTo n is_footer (put_pairs (chain_pairs chain) base) image → SettlesAlike n base image
alike n base image chain has to = record {
  settled = λ s is.
      let same : put_pairs (chain_pairs chain) base ≡ s = ap (λ (c : List Txn). put_pairs (chain_pairs c) base) (one_log n base chain is.chain has is.has) ∙ sym is.is in
      subst (λ (t : Image). SettlesTo n is_footer t image) same to;
  refused = λ r no_log. absurd (not_refused n base chain r has no_log);
}

pub always_alike : (old mid new : State) (chain : List Txn) → Idles old mid → Goes mid new → IsQuiet old → HasLog old.blocks old.seen chain
    → (IsQuiet mid → HasLog mid.blocks mid.seen chain → LeavesOnly mid new (SettlesTo mid.blocks is_footer (put_pairs (chain_pairs chain) mid.seen))) → SettlesAlways old new
always_alike old mid new chain idles goes quiet has moment =
    let here : HasLog mid.blocks mid.seen chain = log_later old mid chain idles has in
    let left = moment (quiet_idle old mid idles quiet) here in
    record {
      each = λ m image lo hi may. alike old.blocks old.seen image chain has
          (subst (λ (n : ℕ). SettlesTo n is_footer (put_pairs (chain_pairs chain) old.seen) image) idles.goes.blocks
          (subst (λ (i : Image). SettlesTo mid.blocks is_footer (put_pairs (chain_pairs chain) i) image) idles.seen (left.each m image (let now = idles.clock in omega (arith, lo, now)) hi may)));
    }

-- what holds after a call that only looked holds before it
pub always_after : (old mid new : State) → Idles old mid → IsQuiet old → (IsQuiet mid → SettlesAlways mid new) → SettlesAlways old new
always_after old mid new idles quiet moment =
    let left = moment (quiet_idle old mid idles quiet) in
    record {
      each = λ m image lo hi may. subst (λ (n : ℕ). SettlesAlike n old.seen image) idles.goes.blocks
          (subst (λ (i : Image). SettlesAlike mid.blocks i image) idles.seen (left.each m image (let now = idles.clock in omega (arith, lo, now)) hi may));
    }

pub length_chain : (txns : List TxnHere) → length (chain_shown txns) ≡ length txns
length_chain txns = length-reverse (map txn_shown txns) ∙ length-map txns txn_shown

-- ---- the journal header

-- no transaction has a copy of the journal header
pub header_apart : (n : ℕ) (image : Image) (chain : List Txn) → HasLog n image chain → Contains (originals chain) 19 → ⊥
header_apart n image chain has one = (original_apart n 19 (first_in_range n (chain_pairs chain) 19 (chain_in_range n image (flushed image) (committed image) chain has.txns) one)).0 refl

-- so it names the same head when they are in place
pub header_stays : (n : ℕ) (base image : Image) (chain : List Txn) → HasLog n base chain → AgreesOutside is_footer (put_pairs (chain_pairs chain) base) image → committed image ≡ committed base
header_stays n base image chain has agrees =
    let other : 19 ≢ 20 = (λ e. omega (arith, e)) in
    ap (λ (x : List ℕ). (header_of x).last) (agrees.others 19 other ∙ put_spared (chain_pairs chain) base 19 (header_apart n base chain has))

pub head_named : (s0 s1 s2 : State) (chain : List Txn) (head : ℕ) → Idles s0 s1 → Goes s1 s2 → (TellsReads s0 → HasLog s0.blocks s0.seen chain × (head ≡ committed s0.seen)) → (TellsReads s1 → HasLog s1.blocks s1.seen chain → IsPlaced s1 chain s2) → IsNamed s2 head
head_named s0 s1 s2 chain head idles goes read placed = λ told.
    let mid : TellsReads s1 = goes.reads.0 told in
    let first = read (idles.goes.reads.0 mid) in
    let here : HasLog s1.blocks s1.seen chain = log_later s0 s1 chain idles first.0 in
    first.1 ∙ ap (λ (i : Image). committed i) (sym idles.seen) ∙ sym (header_stays s1.blocks s1.seen s2.seen chain here (placed mid here).settled)

-- the end, seen from the beginning
pub put_whole : (s0 s3 s4 : State) (txns : List TxnHere) (count : ℕ) (footer : List ℕ) → Idles s0 s3 → count ≡ length txns → HasLog s0.blocks s0.seen (chain_shown txns) → footer ≡ block_at s3.seen 20
    → (HasLog s3.blocks s3.seen (chain_shown txns) → footer ≡ block_at s3.seen 20 → IsPlaced s3 (chain_shown txns) s4) → PutInPlace s0 count s4
put_whole s0 s3 s4 txns count footer idles is has holds placed =
    let chain = chain_shown txns in
    let here : HasLog s3.blocks s3.seen chain = log_later s0 s3 chain idles has in
    let p = placed here holds in
    record {
      chain = chain;
      log = has;
      count = is ∙ sym (length_chain txns);
      settled = subst (λ (i : Image). AgreesOutside is_footer (put_pairs (chain_pairs chain) i) s4.seen) idles.seen p.settled;
      footer = p.footer ∙ ap (λ (i : Image). footer_after chain (block_at i 20)) idles.seen;
      equal = p.equal;
    }

pub untouched_after : (s0 s3 s4 : State) → Idles s0 s3 → Untouched s3 s4 → Untouched s0 s4
untouched_after s0 s3 s4 idles u = record { seen = u.seen ∙ idles.seen; clock = u.clock ∙ idles.clock }
