-- A cell under the open atoms stands on a block of the volume that the space uses.
use Rattle.std.proofs.Common.{◌≡◌, ℕ, ◌<◌, ◌||◌, ◌&&◌, true, false, not, get_or, Bool, List, Option, Some, None, refl, sym}
use Rattle.std.proofs.Common.{◌∙◌, ap, subst, arith, ◌^◌, inl, inr}
use Rattle.std.specs.Prelude.{nat_le}
use Rattle.std.proofs.lemmas.Bool.{or_cases}
use Rattle.std.proofs.lemmas.Bool.Decides.{nat_tests}
use Rattle.r4_base.specs.Bitmap.{is_fixed}
use Rattle.r4_base.specs.Image.{Image}
use Rattle.r4_base.specs.Tree.{Node, Store}
use Rattle.r4_base.specs.Value.{Value}
use Rattle.r4_base.specs.declared.things.AtomNo.{AtomNo}
use Rattle.r4_accounting.specs.r4_commit.Planned.{CommitSeen}
use Rattle.r4_content.specs.Meaning.{greatest_size}
use Rattle.r4_accounting.specs.r4_durable.Kept.{Means, sealing_of}
use Rattle.r4_accounting.specs.r4_durable.Meaning.{Beginning, first_id}
use Rattle.r4_accounting.specs.r4_durable.Sealing.{IsSealing, Sealing, commit_in, made_by, session_after}
use Rattle.r4_accounting.proofs.r4_durable.Flushes.{is_sealing}
use Rattle.r4_accounting.proofs.r4_durable.SealedContent.{count_is, new_content, ok}
use Rattle.r4_accounting.proofs.r4_flushed.FlushedCells.{FitsOnDisk}
use Rattle.r4_outside.specs.Device.{State}
use Rattle.r4_accounting.specs.r4_sealed.Commits.{image_after, super_after}
use Rattle.r4_accounting.specs.r4_sealed.Contents.{HasContentWith}
use Rattle.r4_accounting.proofs.r4_sealed.NewCells.{marks_after, or_first, or_second}
use Rattle.r4_accounting.specs.r4_sets.Session.{Layer, Session}
use Rattle.r4_accounting.proofs.r4_sets.Patches.{empty_sealed}
use Rattle.r4_space.specs.Space.{Space, freed_by, is_claimed, is_marked_after, is_marked_by, is_taken, is_taken_by, up_to}
use Rattle.r4_accounting.specs.r4_trace.Job.{Asked}
use Rattle.r4_accounting.specs.r4_trace.Traced.{sealed_in}
use Rattle.r4_accounting.specs.r4_kept.Meaning.{ComesFrom, IsAt, IsAtRest, IsFlushing, IsInCommit, IsSealedEmpty}
use Rattle.r4_accounting.specs.r4_kept.Story.{Flush, Headed}
use Rattle.r4_accounting.specs.r4_kept.declared.parts.Commit.{Commit}
use Rattle.r4_accounting.specs.r4_kept.declared.parts.Volume.{Volume}

-- the block is used, and one of the volume
pub record IsUsed (s : Space) (k : ℕ) : Type 0 where
  pub used : is_taken s k ≡ true
  pub below : k < s.block_count

-- each cell under the open atoms stands on such a block
abbrev pub StandOnUsed : Session → Space → Type 0
StandOnUsed c s = (k : ℕ) (n : Node Value) → c.under.cells k ≡ Some n → IsUsed s k

marked_used : (s : Space) (k : ℕ) → get_or s.marked k false ≡ true → is_taken s k ≡ true
unfolding is_taken_by
marked_used s k e =
    or_first (get_or s.marked k false)
    (get_or s.placed k false || (is_claimed s.held k || is_claimed s.deferred k)) e

placed_used : (s : Space) (k : ℕ) → get_or s.placed k false ≡ true → is_taken s k ≡ true
unfolding is_taken_by
placed_used s k e =
    or_second (get_or s.marked k false)
    (get_or s.placed k false || (is_claimed s.held k || is_claimed s.deferred k))
    (or_first (get_or s.placed k false) (is_claimed s.held k || is_claimed s.deferred k) e)

-- ---- while no plan of a commit is under way

record IsMarkedIn (s : Space) (k : ℕ) : Type 0 where
  marked : get_or s.marked k false ≡ true
  below : k < s.block_count

marked_at_rest : (b : Beginning) (job : Option Asked) (c : Session) (s : Space) (image : Image)
    → Means greatest_size b job c s image → (k : ℕ) (d : Node Value) → c.under.cells k ≡ Some d → IsMarkedIn s k
marked_at_rest b job c s image means k d is =
    let has = means.rests.has in
    let at : has.content.store k ≡ Some d =
    ap (λ (t : Store Value). t k) has.same_store ∙ ap (λ (l : Layer). l.cells k) (sym means.alone) ∙ is in
    let place = has.content.places k d at in
    let lt : k < s.block_count = subst (λ (j : ℕ). k < j) means.rests.here.count place.0 in
    record { marked = means.rests.here.marks k lt ∙ place.2; below = lt }

used_at_rest : (b : Beginning) (job : Option Asked) (c : Session) (s : Space) (v : Volume) (d : State)
    → IsAtRest b job c s v d → StandOnUsed c s
used_at_rest b job c s v d h k n is =
    let at = marked_at_rest b job c s d.seen h.means k n is in
    record { used = marked_used s k at.marked; below = at.below }

used_sealed_empty : (b : Beginning) (job : Option Asked) (c : Session) (s : Space) (v : Volume) (d : State)
    (a : AtomNo) → IsSealedEmpty b job c s v d a → StandOnUsed c s
used_sealed_empty b job c s v d a h k n is =
    let at : h.before.under.cells k ≡ Some n =
    ap (λ (t : Store Value). t k) (sym (empty_sealed h.before a.0 h.none).0)
    ∙ ap (λ (l : Layer). l.cells k) (sym h.goes.under) ∙ is in
    let marked = marked_at_rest b job h.before h.space d.seen h.rest.means k n at in
    record {
      used = marked_used s k (ap (λ (l : List Bool). get_or l k false) h.alike.marked ∙ marked.marked);
      below = subst (λ (m : ℕ). k < m) (sym h.alike.count) marked.below;
    }

-- ---- while one is

-- what a commit leaves marked was marked or placed before
was_used : (s : Space) (atom : AtomNo) (k : ℕ) → k < s.block_count → is_fixed s.block_count k ≡ false
    → is_marked_by s atom k ≡ true → (get_or s.marked k false || get_or s.placed k false) ≡ true
unfolding is_marked_by is_marked_after
was_used s atom k lt free h =
    let inside : nat_le s.block_count k ≡ false = grind (arith, nat_tests, lt) in
    by (nat_le s.block_count k) (is_fixed s.block_count k) (get_or s.marked k false || get_or s.placed k false)
    (not (is_claimed (freed_by (up_to s.sealed atom) s.deferred) k)) inside free h
  where
    by : (past fixed has stays : Bool) → past ≡ false → fixed ≡ false → (past || (fixed || (has && stays))) ≡ true
        → has ≡ true
    by past fixed true stays p f e = refl
    by false false false stays p f e = e
    by true fixed false stays p f e = absurd cc
    by false true false stays p f e = absurd cc

module _ (disk : FitsOnDisk) (b : Beginning) (job : Option Asked) (c : Session) (s : Space) (d : State) (f : Flush)
    (a : AtomNo) (w : CommitSeen) (h : IsFlushing b job c s d f a w) where
  abbrev x : Sealing
  x = sealing_of f.before f.work f.plan

  small : greatest_size < 2 ^ 64
  small = omega arith

  abbrev sealing : IsSealing greatest_size (first_id b) job b.blocks x
  sealing = is_sealing greatest_size b job f.before f.work f.plan h.way.kept h.way.can

  abbrev content : HasContentWith b.blocks (image_after (commit_in x)) (super_after (commit_in x)) x.under
      (made_by greatest_size (session_after x) (sealed_in (session_after x).trace))
  content = new_content disk greatest_size small (first_id b) job b.blocks x sealing

  under_is : c.under ≡ (session_after x).under
  under_is = by h.comes.headed h.comes.from
    where
      by : (o : Option Headed) → ComesFrom b job f h.comes.more o c → c.under ≡ (session_after x).under
      by None from = from.under
      by (Some hd) from = from.behind.under ∙ from.before.under

  pub used_flushing : StandOnUsed c s
  used_flushing k n is =
      let at : content.content.store k ≡ Some n =
      ap (λ (t : Store Value). t k) content.same_store ∙ ap (λ (l : Layer). l.cells k) (sym under_is) ∙ is in
      let (lt, free, marked) = content.content.places k n at in
      let count = count_is disk greatest_size small (first_id b) job b.blocks x sealing in
      let below : k < (commit_in x).space.block_count = subst (λ (m : ℕ). k < m) count lt in
      let fixed = subst (λ (m : ℕ). is_fixed m k ≡ false) count free in
      let by_space =
      sym (marks_after b.blocks (commit_in x) (ok disk greatest_size small (first_id b) job b.blocks x sealing) k below)
      ∙ marked in
      let was = was_used (commit_in x).space f.work.atom k below fixed by_space in
      let now : (get_or s.marked k false || get_or s.placed k false) ≡ true =
      ap (λ (l : List Bool). get_or l k false || get_or s.placed k false) h.later.marked
      ∙ ap (λ (l : List Bool). get_or (commit_in x).space.marked k false || get_or l k false) h.later.placed ∙ was in
      record {
        used = elim (or_cases (get_or s.marked k false) (get_or s.placed k false) now) [
          | inl one ↦ marked_used s k one
          | inr two ↦ placed_used s k two
        ];
        below = subst (λ (m : ℕ). k < m) (sym h.later.count) below;
      }

-- ---- before a call of the device fails

pub stand_on_used : FitsOnDisk → (b : Beginning) (job : Option Asked) (c : Session) (s : Space) (v : Volume) (d : State)
    (flush : Option Flush) (commit : Option Commit) → IsAt b job c s v d flush None commit → StandOnUsed c s
stand_on_used disk b job c s v d flush None h = used_at_rest b job c s v d h
stand_on_used disk b job c s v d flush (Some k) h = by flush k.work h
  where
    by : (o : Option Flush) (w : Option CommitSeen) → IsInCommit b job c s v d o k.atom w → StandOnUsed c s
    by o None g = used_sealed_empty b job c s v d k.atom g
    by None (Some w) g = absurd g
    by (Some f) (Some w) g = used_flushing disk b job c s d f k.atom w g
