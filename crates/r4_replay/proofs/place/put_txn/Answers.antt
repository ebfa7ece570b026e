use Rattle.std.proofs.Common.{ℕ, List, subst, ◌∙◌, ap}
use Rattle.r4_base.specs.Image.{put_pairs}
use Rattle.r4_outside.specs.Device.{Spares}
use Rattle.r4_outside.proofs.Moments.{reads_of}
use Rattle.r4_replay.specs.Placing.{IsOriginalOf}
use Rattle.r4_replay.proofs.Placing.{copied, copied_synced, footed, footed_synced}
use Rattle.r4_replay.proofs.place.put_txn.Goals as goal

pub returns-in_err-copy_pairs-clause-any_moment : goal.returns-in_err-copy_pairs-clause-any_moment
returns-in_err-copy_pairs-clause-any_moment g c = λ quiet. (copied _ c.args.txn.now.pairs.items c.name_in.new.footer c.requires.more quiet _ c.copy_pairs.ensures.goes
    (subst (λ (l : List (ℕ × ℕ)). Spares (IsOriginalOf l) (g.D.Device.state c.args.dev.now) (g.D.Device.state c.copy_pairs.new.dev)) c.deref.ensures.value c.copy_pairs.ensures.spares)).so_far

pub returns-in_err-sync-clause-any_moment : goal.returns-in_err-sync-clause-any_moment
returns-in_err-sync-clause-any_moment g c = λ quiet. (copied_synced _ c.args.txn.now.pairs.items c.name_in.new.footer c.requires.more quiet _ c.copy_pairs.ensures.goes
    (subst (λ (l : List (ℕ × ℕ)). Spares (IsOriginalOf l) (g.D.Device.state c.args.dev.now) (g.D.Device.state c.copy_pairs.new.dev)) c.deref.ensures.value c.copy_pairs.ensures.spares) _ _ c.sync.ensures).so_far

pub returns-in_err-write-clause-any_moment : goal.returns-in_err-write-clause-any_moment
returns-in_err-write-clause-any_moment g c = λ quiet. (footed _ c.args.txn.now.pairs.items c.name_in.new.footer c.requires.more quiet _ c.copy_pairs.ensures.goes
    (subst (λ (l : List (ℕ × ℕ)). Spares (IsOriginalOf l) (g.D.Device.state c.args.dev.now) (g.D.Device.state c.copy_pairs.new.dev)) c.deref.ensures.value c.copy_pairs.ensures.spares)
    (c.in_ok-copy_pairs.ensures.copied (reads_of (g.D.Device.state c.args.dev.now) quiet.tells) ∙ ap (λ (l : List (ℕ × ℕ)). put_pairs l (g.D.Device.state c.args.dev.now).seen) c.deref.ensures.value)
    _ _ c.in_ok-sync.ensures _ _ c.write.ensures).so_far

pub returns-clause-any_moment : goal.returns-clause-any_moment
returns-clause-any_moment g c = λ quiet. (footed_synced _ c.args.txn.now.pairs.items c.name_in.new.footer c.requires.more quiet _ c.copy_pairs.ensures.goes
    (subst (λ (l : List (ℕ × ℕ)). Spares (IsOriginalOf l) (g.D.Device.state c.args.dev.now) (g.D.Device.state c.copy_pairs.new.dev)) c.deref.ensures.value c.copy_pairs.ensures.spares)
    (c.in_ok-copy_pairs.ensures.copied (reads_of (g.D.Device.state c.args.dev.now) quiet.tells) ∙ ap (λ (l : List (ℕ × ℕ)). put_pairs l (g.D.Device.state c.args.dev.now).seen) c.deref.ensures.value)
    _ _ c.in_ok-sync.ensures _ _ _ _ c.write.ensures c.sync-2.ensures).so_far
