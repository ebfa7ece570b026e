-- The image with a sealed atom has the content of all that is sealed.
use Rattle.std.proofs.Common.{◌≡◌, ℕ, ◌^◌, ◌≤◌, ◌<◌, Bool, true, false, ◌&&◌, ◌||◌, eqb, List, ◌∷◌, Option, refl}
use Rattle.std.proofs.Common.{sym, ap, ◌∙◌, subst, arith}
use Rattle.std.specs.Prelude.{◌↔◌, nat_lt}
use Rattle.std.proofs.lemmas.Bool.Decides.{nat_tests}
use Rattle.r4_base.specs.Tree.{IsTree, Root}
use Rattle.r4_base.specs.Value.{Content}
use Rattle.r4_base.specs.Volume.{IsLost}
use Rattle.r4_base.specs.declared.superblock.Super40.{Super40}
use Rattle.r4_base.specs.declared.things.AtomNo.{AtomNo}
use Rattle.r4_content.specs.Locality.{Meaning, commands}
use Rattle.r4_content.specs.declared.command.Command.{Command}
use Rattle.r4_content.specs.declared.reply.Reply.{Reply}
use Rattle.r4_flushed.specs.r4_trace.declared.entry.Entry.{Entry}
use Rattle.r4_flushed.specs.r4_trace.declared.entry.Entry.TheVariants.{Sealed}
use Rattle.r4_flushed.specs.r4_trace.Folds.{HasFirstReplies, after_first, content_of}
use Rattle.r4_flushed.specs.r4_trace.Ids.{Start}
use Rattle.r4_flushed.specs.r4_trace.Job.{Asked}
use Rattle.r4_flushed.specs.r4_trace.Traced.{atom_in, committed_in, in_first, is_first, sealed_in}
use Rattle.r4_flushed.specs.r4_sets.Session.{IsTreeOf, Session, Sets, Stands, in_under}
use Rattle.r4_flushed.proofs.r4_sets.Gathered.{under_stands}
use Rattle.r4_flushed.specs.r4_sets_told.Runs.{IsLawfulRun}
use Rattle.r4_flushed.proofs.r4_sets_told.Counted.{good, has_ids}
use Rattle.r4_flushed.specs.r4_sealed.Commits.{IsCommitOn, image_after, super_after}
use Rattle.r4_flushed.specs.r4_sealed.Contents.{HasContentWith, IsTreeFor}
use Rattle.r4_flushed.specs.r4_sealed.Written.{AreWritten, ComesFrom, Frees, IsSpaceOf}
use Rattle.r4_flushed.proofs.r4_sealed.Coming.{are_written, new_tree}
use Rattle.r4_flushed.proofs.r4_sealed.LostBlocks.{lost}
use Rattle.r4_flushed.proofs.r4_sealed.NewContent.{content}
use Rattle.r4_flushed.proofs.r4_placed.ByBlock.{comes_by, frees_by, is_commit_by}
use Rattle.r4_flushed.proofs.FlushedCells.{FitsOnDisk, comes, frees}
use Rattle.r4_flushed.proofs.r4_placed.Planning.{space_placed}
use Rattle.r4_flushed.proofs.Sealing.{sets_sealed}
use Rattle.r4_durable.specs.Sealing.{IsSealing, Sealing, commit_in, made_by, session_after, start_in}

-- ---- what is sealed now is none of the first k, where as many were sealed before

or_later : (p q : Bool) → p ≡ false → (p || q) ≡ q
or_later false q e = refl
or_later true q e = absurd (cc e)

and_false : (p q : Bool) → q ≡ false → (p && q) ≡ false
and_false true q e = e
and_false false q e = refl

same_first : (trace : List Entry) (atom : AtomNo) (k : ℕ) → k ≤ sealed_in trace → (t : ℕ)
    → is_first (Sealed atom ∷ trace) k t ≡ is_first trace k t
same_first trace atom k le t =
    let late : nat_lt (sealed_in trace) k ≡ false = grind (arith, nat_tests, le) in
    or_later (eqb (atom_in trace t) atom.0 && nat_lt (sealed_in trace) k) (in_first trace k (atom_in trace t))
    (and_false (eqb (atom_in trace t) atom.0) (nat_lt (sealed_in trace) k) late)

pub same_before : (w : Meaning Command Reply) (start : Content) (trace : List Entry) (atom : AtomNo) (k : ℕ)
    → k ≤ sealed_in trace → after_first w start (Sealed atom ∷ trace) k ≡ after_first w start trace k
same_before w start trace atom k le = λ i. content_of w start (λ t. same_first trace atom k le t i) trace

-- ---- the content

module _ (disk : FitsOnDisk) (limit : ℕ) (small : limit < 2 ^ 64) (next_id : ℕ) (job : Option Asked) (n : ℕ)
    (x : Sealing) (h : IsSealing limit next_id job n x) where
  abbrev now : Session
  now = session_after x

  abbrev at_base : Content
  at_base = made_by limit x.session (committed_in x.session.trace)

  abbrev at_sealed : Content
  at_sealed = made_by limit now (sealed_in now.trace)

  pub all_sets : Sets (commands limit) now
  all_sets = sets_sealed n x.flush at_base h.rest x.session x.under x.memory h.to (commands limit) h.sets

  pub under_is : Stands (commands limit) now.start now.trace (in_under now) x.under now.under.root
  under_is = under_stands (commands limit) now all_sets

  tree : IsTree x.under now.under.root
  tree = under_is.is.tree

  pub ok : IsCommitOn n (commit_in x)
  ok = is_commit_by n x.flush at_base h.rest x.plan h.plan

  pub here : IsSpaceOf h.rest.content (commit_in x).space
  here = space_placed n x.flush at_base h.rest

  from : ComesFrom h.rest.content (commit_in x) x.under
  from = comes_by n x.flush at_base h.rest x.plan x.under
      (comes disk n x.flush at_base h.rest x.session x.under h.to.flushed now.under.root tree x.plan)

  freed : Frees h.rest.content (commit_in x) x.under
  freed = frees_by n x.flush at_base h.rest x.plan x.under
      (frees disk n x.flush at_base h.rest x.session x.under h.to.flushed now.under.root tree x.plan)

  written : AreWritten (commit_in x) x.under
  written = are_written n (commit_in x) at_base h.rest.content here x.under from

  pub run_now : IsLawfulRun limit (start_in now next_id) job now.trace
  run_now = record { lawful = h.run.lawful; room = h.run.room; paths = h.run.paths; ids = h.run.ids }

  tree_for : IsTreeFor x.flush.next x.under at_sealed
  tree_for =
      let start : Start = start_in now next_id in
      let g = good limit small start job (in_under now) now.trace run_now.lawful run_now.room run_now.paths
      run_now.ids in
      record {
        tree = subst (λ (r : Root). IsTreeOf x.under r at_sealed) h.root under_is.is;
        objects = g.lawful.objects;
        ids = has_ids limit small start job (in_under now) now.trace x.flush.next run_now under_is.alike h.counts;
      }

  pub new_content : HasContentWith n (image_after (commit_in x)) (super_after (commit_in x)) x.under at_sealed
  new_content =
      content n (commit_in x) ok x.under at_sealed written
      (new_tree n (commit_in x) ok x.under written at_base at_sealed h.rest.content h.renews tree_for)

  pub replies_now : HasFirstReplies (commands limit) now.start now.trace (sealed_in now.trace)
  replies_now = under_is.replies

  pub replies_before : HasFirstReplies (commands limit) now.start now.trace (committed_in now.trace)
  replies_before = all_sets.committed.replies

  -- ---- its superblock, and what is lost

  pub count_is : new_content.content.super.block_count ≡ (commit_in x).space.block_count
  count_is = ap (λ (s : Super40). s.block_count) new_content.same_super ∙ ok.plannable.blocks

  pub id_is : new_content.content.super.oid ≡ x.flush.next.oid
  id_is = ap (λ (s : Super40). s.oid) new_content.same_super

  pub lost_is : (b : ℕ) → IsLost h.rest.content b ↔ IsLost new_content.content b
  lost_is b =
      lost n (commit_in x) ok at_base at_sealed h.rest.content here new_content.content count_is
      (subst (Frees h.rest.content (commit_in x)) (sym new_content.same_store) freed) b

  pub base_is : made_by limit now (committed_in now.trace) ≡ at_base
  base_is =
      let le = h.sets.counts in
      same_before (commands limit) x.session.start x.session.trace x.flush.atom (committed_in x.session.trace) le
