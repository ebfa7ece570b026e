-- The whole log, from its parts.
use Rattle.std.proofs.Common.{◌≡◌, ℕ, List, Option, Some, None, MatchOption, Result, Ok, Err, refl, sym, subst, arith, MatchResult}
use Rattle.std.specs.Global.{Vec}
use Rattle.r4_base.specs.Image.{Image}
use Rattle.r4_base.specs.Chain.{Txn, HasLog, committed, flushed}
use Rattle.r4_base.specs.Refusal.{Refusal, Head, heads_from, txns_at, log_of, IsOverlap, IsRefused}
use Rattle.r4_base.specs.declared.journal.LogFault.TheVariants.{Overlap}
use Rattle.r4_base.proofs.Logs.{has_log}
use Rattle.r4_outside.specs.Device.{State, TellsReads}
use Rattle.r4_replay.specs.declared.fault.Stop.{Stop}
use Rattle.r4_replay.specs.declared.fault.Stop.TheVariants.{Failed, Memory, Log}
use Rattle.r4_replay.specs.declared.heads.Head.{Head as HeadHere}
use Rattle.r4_replay.specs.declared.txn.Txn.{Txn as TxnHere}
use Rattle.r4_replay.specs.Heads.{heads_shown}
use Rattle.r4_replay.specs.Overlaps.{IsApart}
use Rattle.r4_replay.specs.Txns.{chain_shown}
use Rattle.r4_replay.specs.Chains.{chain_of, ReadsLog}
use Rattle.r4_replay.specs.Reading.{Idles, Finds}
use Rattle.r4_replay.proofs.Found.{found_at}

log_by : (n : ℕ) (image : Image) (header footer : ℕ) (hs : List Head) (found : Result (List Txn) Refusal) → header ≡ committed image → footer ≡ flushed image → heads_from 8 n image footer 19 header ≡ Ok hs → txns_at n image hs ≡ found → log_of n image ≡ found
unfolding log_of
log_by n image header footer hs found h f e t = rw (← f, ← h, e) t

log_stopped : (n : ℕ) (image : Image) (header footer : ℕ) (r : Refusal) → header ≡ committed image → footer ≡ flushed image → heads_from 8 n image footer 19 header ≡ Err r → log_of n image ≡ Err r
unfolding log_of
log_stopped n image header footer r h f e = rw (← f, ← h, e) refl

refused_first : (n : ℕ) (image : Image) (r : Refusal) → log_of n image ≡ Err r → IsRefused n image r
refused_first n image r e = subst (λ (x : Result (List Txn) Refusal). MatchResult x (λ chain. (r.fault ≡ Overlap) × IsOverlap chain r.block) (λ first. first ≡ r)) (sym e) refl

refused_overlap : (n : ℕ) (image : Image) (chain : List Txn) (b : ℕ) → log_of n image ≡ Ok chain → IsOverlap chain b → IsRefused n image (record { block = b; fault = Overlap })
refused_overlap n image chain b e over = subst (λ (x : Result (List Txn) Refusal). MatchResult x (λ c. (Overlap ≡ Overlap) × IsOverlap c b) (λ first. first ≡ record { block = b; fault = Overlap })) (sym e) (refl, over)

module _ (old mid new : State) (n header footer : ℕ) (is : n ≡ old.blocks) (idles : Idles old mid) where
  pub stopped_at_heads : (e : Stop) (result : Result (Vec TxnHere) Stop) → Finds heads_shown old (heads_from 8 n old.seen footer 19 header) (Err e) new → result ≡ Err e → ReadsLog header footer old result new
  stopped_at_heads (Log b f) result finds r = subst (λ (x : Result (Vec TxnHere) Stop). ReadsLog header footer old x new) (sym r)
      (λ tells h k. subst (λ (m : ℕ). IsRefused m old.seen (record { block = b; fault = f })) is (refused_first n old.seen _ (log_stopped n old.seen header footer _ h k (finds tells))))
  stopped_at_heads Failed result finds r = subst (λ (x : Result (Vec TxnHere) Stop). ReadsLog header footer old x new) (sym r) finds
  stopped_at_heads Memory result finds r = subst (λ (x : Result (Vec TxnHere) Stop). ReadsLog header footer old x new) (sym r) tt

  module _ (hs : Vec HeadHere) (heads : TellsReads old → heads_from 8 n old.seen footer 19 header ≡ Ok (heads_shown hs)) where
    pub stopped_at_txns : (e : Stop) (result : Result (Vec TxnHere) Stop) → Finds chain_of mid (txns_at n mid.seen (heads_shown hs)) (Err e) new → result ≡ Err e → ReadsLog header footer old result new
    stopped_at_txns (Log b f) result finds r = subst (λ (x : Result (Vec TxnHere) Stop). ReadsLog header footer old x new) (sym r)
        (λ tells h k. subst (λ (m : ℕ). IsRefused m old.seen (record { block = b; fault = f })) is
        (refused_first n old.seen _ (log_by n old.seen header footer (heads_shown hs) _ h k (heads tells) (found_at (λ i. txns_at n i (heads_shown hs) ≡ Err (record { block = b; fault = f })) old mid idles tells finds))))
    stopped_at_txns Failed result finds r = subst (λ (x : Result (Vec TxnHere) Stop). ReadsLog header footer old x new) (sym r) (let before = idles.goes.faults in omega (arith, finds, before))
    stopped_at_txns Memory result finds r = subst (λ (x : Result (Vec TxnHere) Stop). ReadsLog header footer old x new) (sym r) tt

    module _ (txns : Vec TxnHere) (found : TellsReads mid → txns_at n mid.seen (heads_shown hs) ≡ Ok (chain_of txns)) where
      whole : TellsReads old → header ≡ committed old.seen → footer ≡ flushed old.seen → log_of n old.seen ≡ Ok (chain_of txns)
      whole tells h k = log_by n old.seen header footer (heads_shown hs) _ h k (heads tells) (found_at (λ i. txns_at n i (heads_shown hs) ≡ Ok (chain_of txns)) old mid idles tells found)

      pub stopped_at_overlap : (b : ℕ) → IsOverlap (chain_of txns) b → TellsReads old → header ≡ committed old.seen → footer ≡ flushed old.seen → IsRefused old.blocks old.seen (record { block = b; fault = Overlap })
      stopped_at_overlap b over tells h k = subst (λ (m : ℕ). IsRefused m old.seen (record { block = b; fault = Overlap })) is (refused_overlap n old.seen (chain_of txns) b (whole tells h k) over)

      pub read_whole : IsApart (chain_of txns) → TellsReads old → header ≡ committed old.seen → footer ≡ flushed old.seen → HasLog old.blocks old.seen (chain_of txns)
      read_whole apart tells h k = subst (λ (m : ℕ). HasLog m old.seen (chain_of txns)) is (has_log n old.seen (chain_of txns) (whole tells h k) apart)

pub overlap_at : (txns : Vec TxnHere) (items : List TxnHere) (o : Option ℕ) (b : ℕ) → items ≡ txns.items → o ≡ Some b → MatchOption o (IsApart (chain_shown items)) (IsOverlap (chain_shown items)) → IsOverlap (chain_of txns) b
overlap_at txns items o b e is m = let at_some = subst (λ (x : Option ℕ). MatchOption x (IsApart (chain_shown items)) (IsOverlap (chain_shown items))) is m in subst (λ (l : List TxnHere). IsOverlap (chain_shown l) b) e at_some

pub apart_at : (txns : Vec TxnHere) (items : List TxnHere) (o : Option ℕ) → items ≡ txns.items → o ≡ None → MatchOption o (IsApart (chain_shown items)) (IsOverlap (chain_shown items)) → IsApart (chain_of txns)
apart_at txns items o e is m = let at_none = subst (λ (x : Option ℕ). MatchOption x (IsApart (chain_shown items)) (IsOverlap (chain_shown items))) is m in subst (λ (l : List TxnHere). IsApart (chain_shown l)) e at_none
