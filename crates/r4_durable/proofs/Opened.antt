-- A volume that is opened, or whose log is replayed, is the volume of the beginning.
use Rattle.std.proofs.Common.{◌≡◌, ℕ, ◌+◌, ◌<◌, ◌/◌, ◌%◌, zero, suc, false, List, [], get_or, length, replicate}
use Rattle.std.proofs.Common.{refl, sym, ap, ◌∙◌, subst, arith}
use Rattle.std.specs.Prelude.{Option}
use Rattle.std.specs.List.{range_with_len}
use Rattle.std.proofs.lemmas.List.{get_or-map}
use Rattle.std.proofs.lemmas.List.FromFn.{get_or-range_with_len, length-range_with_len}
use Rattle.r4_base.specs.Bitmap.{bitmap_count, is_marked, is_used}
use Rattle.r4_base.specs.Image.{AgreesOutside, Image, IsImage, put_pairs}
use Rattle.r4_base.specs.Chain.{HasLog, Settles, Txn, chain_pairs, is_footer}
use Rattle.r4_base.specs.Value.{Content}
use Rattle.r4_base.specs.Volume.{HasContent, root_of}
use Rattle.r4_base.specs.declared.superblock.Super40.{Super40}
use Rattle.r4_base.proofs.Logs.{one_log}
use Rattle.r4_base.proofs.Members.{no_member}
use Rattle.r4_content.specs.Locality.{commands}
use Rattle.r4_content.specs.Meaning.{greatest_size}
use Rattle.r4_content.proofs.VolumeWidths.{volume_lawful, volume_room}
use Rattle.r4_outside.specs.Device.{Goes, IsQuiet, State, TellsCrashes, TellsReads}
use Rattle.r4_open.specs.r4_replay.Replay.{PutInPlace, SettlesAlike, SettlesAlways}
use Rattle.r4_open.specs.r4_space.Bitmaps.{AreBitmapsOf, marks, told_space}
use Rattle.r4_open.specs.declared.opened.Opened.{Opened}
use Rattle.r4_flushed.specs.r4_trace.Job.{Asked}
use Rattle.r4_flushed.specs.r4_trace.Safe.{IsSafeFrom}
use Rattle.r4_flushed.specs.r4_wander.Kept.{IsVolumeOf}
use Rattle.r4_flushed.specs.r4_sets.Session.{IsTreeOf}
use Rattle.r4_flushed.proofs.r4_sets.Answered.{opened_sets}
use Rattle.r4_flushed.specs.r4_sets_told.Runs.{IsLawfulRun}
use Rattle.r4_flushed.specs.r4_sealed.Written.{IsSpaceOf}
use Rattle.r4_flushed.proofs.r4_sealed.Kept.{from_footer}
use Rattle.r4_flushed.proofs.r4_sealed.Resting.{Rests, lost_rested, rested}
use Rattle.r4_flushed.proofs.Deferring.{deferred_begun}
use Rattle.r4_flushed.proofs.Owned.{opened_owns}
use Rattle.r4_durable.specs.Kept.{HasOpened, IsKept, Means, session_of, space_of}
use Rattle.r4_durable.specs.Meaning.{Beginning, IsOn, means, start_of}
use Rattle.r4_durable.proofs.Meant.{first_may_be, like_means, volume_like}

-- the settled image of the beginning
abbrev pub settled_at : Beginning → Image
settled_at b = put_pairs (chain_pairs b.volume.chain) b.image

settles_there : (b : Beginning) → Settles b.blocks b.image (settled_at b)
settles_there b = record { chain = b.volume.chain; has = b.volume.log; is = refl }

-- what settles as it does, but for the footer's block, means the content of the beginning
pub alike_means : (b : Beginning) (image : Image) → IsImage b.blocks image → SettlesAlike b.blocks b.image image
    → means b image b.content
alike_means b image whole alike =
    let c = b.volume.content in
    let v = from_footer b.blocks (settled_at b) image b.content c whole
    (alike.settled (settled_at b) (settles_there b)) in
    like_means b (settled_at b) b.content c c.super.oid image b.content
    (volume_like b.blocks (settled_at b) image b.content c v) (first_may_be b) (λ k l. l)

-- its run begins lawfully, where the limit of a file's size is that of volumes
pub begins_lawfully : (b : Beginning) (job : Option Asked) → IsLawfulRun greatest_size (start_of b) job []
begins_lawfully b job =
    let c = b.volume.content in
    record {
      lawful = volume_lawful b.blocks (settled_at b) b.content c;
      room = volume_room b.blocks (settled_at b) b.content c 1 (omega arith);
      paths = tt;
      ids = tt;
    }

-- at each moment of an opening
module _ (b : Beginning) (limit : ℕ) (d e : State) (on : IsOn b d) (goes : Goes d e) where
  pub opens_safely : SettlesAlways d e → IsSafeFrom (means b) (commands limit) b.content d.clock [] e
  opens_safely always = record {
    each = λ m image lo hi left. record {
      k = 0;
      at_least = omega arith;
      at_most = omega arith;
      in_sealed = omega arith;
      has = record {
        content = alike_means b image
            (subst (λ (k : ℕ). IsImage k image) (goes.blocks ∙ sym on.size)
            (record { blocks = left.blocks; whole = left.whole }))
            (subst (λ (i : Image). SettlesAlike b.blocks i image) (sym on.image)
            (subst (λ (k : ℕ). SettlesAlike k d.seen image) (sym on.size) (always.each m image lo hi left)));
        replies = tt;
      };
    };
  }

-- ---- the space that the bitmaps tell

module _ (n : ℕ) (image : Image) (m : Content) (c : HasContent n image m) (bitmaps : List (List ℕ))
    (count : ℕ) (is : c.super.block_count ≡ count) (told : AreBitmapsOf count image bitmaps) where
  marked_there : (b : ℕ) → b < count → get_or (told_space count bitmaps).marked b false ≡ is_marked image b
  marked_there b lt =
      let blocks : List ℕ = range_with_len 0 count in
      let inside : b < length blocks = let long = length-range_with_len 0 count in omega (arith, lt, long) in
      let zero_more : 0 + b ≡ b = omega arith in
      let at : get_or blocks b 0 ≡ b = get_or-range_with_len 0 count b 0 lt ∙ zero_more in
      let within : b / 32736 < bitmap_count count = omega (arith, lt) in
      get_or-map (marks bitmaps) blocks b 0 false inside ∙ ap (marks bitmaps) at
      ∙ ap (λ (x : List ℕ). is_used x (b % 32736)) (told.each (b / 32736) within)

  pub told_is : IsSpaceOf c (told_space count bitmaps)
  told_is = record { count = is; marks = marked_there }

pub none_in : (n k : ℕ) → get_or (replicate n false) k false ≡ false
none_in zero k = refl
none_in (suc n) zero = refl
none_in (suc n) (suc k) = none_in n k

-- ---- what reading gives

module _ (limit : ℕ) (b : Beginning) (job : Option Asked) (o : Opened) (image : Image)
    (whole : IsImage b.blocks image) (log : HasLog b.blocks image [])
    (v : IsVolumeOf b.blocks image (settled_at b) b.content b.volume.content)
    (has : HasOpened limit b job o image) where
  abbrev r : Rests b.blocks (settled_at b) image b.content b.volume.content []
  r = rested b.blocks (settled_at b) image b.content b.volume.content v log

  same_super40 : r.has.content.super ≡ o.super40
  same_super40 = cc (sym r.has.content.layout.format ∙ has.opening.super)

  tree : IsTreeOf b.volume.content.store (root_of b.volume.content.super) b.content
  tree =
      let c = b.volume.content in
      record { tree = c.tree; raw = c.raw; units = c.units; files = c.files; visible = c.visible }

  pub opened_means : Means limit b job (session_of b) (space_of o) image
  opened_means = record {
    session = record {
      start = refl;
      sets = opened_sets (commands limit) b.volume.content.store (root_of b.volume.content.super) b.content tree;
      run = has.run;
      owns = opened_owns b.volume.content.store (root_of b.volume.content.super) b.content;
    };
    none_sealed = refl;
    alone = refl;
    deferred = deferred_begun b.volume.content.store (root_of b.volume.content.super) b.content
        (space_of o) refl;
    rests = record {
      whole = whole;
      log = log;
      super40 = b.volume.content.super;
      has = r.has;
      root = refl;
      lawful = has.lawful;
      here = told_is b.blocks image b.content r.has.content o.bitmaps.items o.super40.block_count
          (ap (λ (x : Super40). x.block_count) same_super40) has.opening.bitmaps;
      none_placed = λ k. none_in o.super40.block_count k;
      next_id = first_may_be b;
      lost = λ k. lost_rested b.blocks (settled_at b) image b.content b.volume.content r k;
    };
  }

-- all that is kept, from the replay on
module _ (limit : ℕ) (b : Beginning) (job : Option Asked) (o : Opened) (d e : State)
    (count : ℕ) (on : IsOn b d) (goes : Goes d e) (put : TellsReads d → PutInPlace d count e)
    (crashes : TellsCrashes d → SettlesAlways d e × IsQuiet e)
    (has : TellsReads e → HasOpened limit b job o e.seen) where
  module _ (reads : TellsReads e) where
    abbrev p : PutInPlace d count e
    p = put (goes.reads.0 reads)

    whole : IsImage b.blocks e.seen
    whole = subst (λ (k : ℕ). IsImage k e.seen) (goes.blocks ∙ sym on.size) reads

    log_now : HasLog b.blocks e.seen []
    log_now = record { txns = p.equal; few = omega arith; apart = λ k one keeps. no_member k one }

    same_log : HasLog d.blocks d.seen b.volume.chain
    same_log =
        subst (λ (i : Image). HasLog d.blocks i b.volume.chain) on.image
        (subst (λ (k : ℕ). HasLog k b.image b.volume.chain) on.size b.volume.log)

    same_chain : p.chain ≡ b.volume.chain
    same_chain = one_log d.blocks d.seen p.chain b.volume.chain p.log same_log

    agrees : AgreesOutside is_footer (settled_at b) e.seen
    agrees =
        subst (λ (i : Image). AgreesOutside is_footer (put_pairs (chain_pairs b.volume.chain) i) e.seen)
        (sym on.image)
        (subst (λ (ch : List Txn). AgreesOutside is_footer (put_pairs (chain_pairs ch) d.seen) e.seen) same_chain
        p.settled)

    volume_now : IsVolumeOf b.blocks e.seen (settled_at b) b.content b.volume.content
    volume_now = from_footer b.blocks (settled_at b) e.seen b.content b.volume.content whole (record {
      settled = e.seen;
      settles = record { chain = []; has = log_now; is = refl };
      agrees = agrees;
    })

    means_now : Means limit b job (session_of b) (space_of o) e.seen
    means_now = opened_means limit b job o e.seen whole log_now volume_now (has reads)

  pub kept_now : IsKept limit b job (session_of b) (space_of o) d.clock e
  kept_now = record {
    means = means_now;
    durable = λ tells. opens_safely b limit d e on goes (crashes (goes.crashes.0 tells)).0;
    now = λ tells. (crashes (goes.crashes.0 tells)).1;
  }
