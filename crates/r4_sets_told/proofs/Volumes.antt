-- The committed cells, and those with the sealed atom in place, as the content of an image.
use Rattle.std.specs.Prelude.{ℕ, ◌^◌, ◌<◌, Option}
use Rattle.std.proofs.Common.{subst}
use Rattle.r4_base.specs.Image.{Image}
use Rattle.r4_base.specs.Volume.{HasContent}
use Rattle.r4_base.specs.declared.superblock.Super40.{Super40}
use Rattle.r4_content.specs.Locality.{commands}
use Rattle.r4_sets.specs.r4_trace.Folds.{content_of}
use Rattle.r4_sets.specs.r4_trace.Ids.{Start}
use Rattle.r4_sets.specs.r4_trace.Job.{Asked}
use Rattle.r4_sets.specs.r4_trace.Safe.{HasFirst}
use Rattle.r4_sets.specs.r4_trace.Traced.{committed_in, is_first, sealed_in}
use Rattle.r4_sets.specs.Session.{IsTreeOf, Layer, Session, Sets, Stands}
use Rattle.r4_sets.proofs.Gathered.{under_stands}
use Rattle.r4_sets_told.specs.Images.{StandsIn}
use Rattle.r4_sets_told.specs.Runs.{CountsObjects, IsLawfulRun}
use Rattle.r4_sets_told.proofs.Counted.{good, has_ids}
use Rattle.r4_sets_told.proofs.Blocks.{to_image}

module _ (limit : ℕ) (small : limit < 2 ^ 64) (next_id : ℕ) (job : Option Asked) (c : Session) where
  abbrev begun : Start
  begun = record { content = c.start; next_id = next_id }

  module _ (run : IsLawfulRun limit begun job c.trace) (n : ℕ) (image : Image) (super : Super40) where
    volume_of : (l : Layer) (k : ℕ) → Stands (commands limit) c.start c.trace (is_first c.trace k) l.cells l.root
        → StandsIn n image super l → CountsObjects limit begun (is_first c.trace k) c.trace super
        → HasFirst (HasContent n) (commands limit) c.start c.trace k image
    volume_of l k st stands counts =
        let s = is_first c.trace k in
        let m = content_of (commands limit) c.start s c.trace in
        let g = good limit small begun job s c.trace run.lawful run.room run.paths run.ids in
        record {
          content = to_image n image super l.cells m stands.layout stands.cells stands.places
              (subst (λ r. IsTreeOf l.cells r m) stands.root st.is)
              g.lawful.objects (has_ids limit small begun job s c.trace super run st.alike counts);
          replies = st.replies;
        }

    pub base_volume : Sets (commands limit) c → StandsIn n image super c.base
        → CountsObjects limit begun (is_first c.trace (committed_in c.trace)) c.trace super
        → HasFirst (HasContent n) (commands limit) c.start c.trace (committed_in c.trace) image
    base_volume sets stands counts = volume_of c.base (committed_in c.trace) sets.committed stands counts

    pub under_volume : Sets (commands limit) c → StandsIn n image super c.under
        → CountsObjects limit begun (is_first c.trace (sealed_in c.trace)) c.trace super
        → HasFirst (HasContent n) (commands limit) c.start c.trace (sealed_in c.trace) image
    under_volume sets stands counts =
        volume_of c.under (sealed_in c.trace) (under_stands (commands limit) c sets) stands counts
