-- What the parts of a listing say, put together.
use Rattle.std.proofs.Common.{◌≡◌, ◌⊎◌, inl, inr, ⊎_elim, ℕ, List, [], ◌<◌, ◌≤◌, refl, sym, ap, subst, ◌∙◌, arith, Result, Ok, Err}
use Rattle.std.specs.Prelude.{None, IfErr, IfOk}
use Rattle.std.proofs.lemmas.Bool.{cases_lt}
use Rattle.std.proofs.lemmas.List.{get_or_past}
use Rattle.r4_base.proofs.Frame.{chain_in_range, first_in_range, length-put_pairs}
use Rattle.r4_base.specs.Chain.{HasLog, Settles, Txn, chain_pairs, home}
use Rattle.r4_base.specs.Image.{Image, IsLawful, block_at, put_pairs}
use Rattle.r4_base.specs.declared.superblock.LayoutFault.{LayoutFault}
use Rattle.r4_base.specs.declared.superblock.Super40.{Super40}
use Rattle.r4_base.specs.declared.items.CellFault.{CellFault}
use Rattle.r4_base.specs.declared.things.BlockNo.{BlockNo}
use Rattle.r4_base.specs.Layout.{super_of}
use Rattle.r4_base.specs.Value.{Content}
use Rattle.r4_base.specs.Volume.{HasContent, HasVolume}
use Rattle.r4_base.proofs.Logs.{not_refused, one_log}
use Rattle.r4_list.proofs.BodyOver.{nothing_part}
use Rattle.r4_open.proofs.Openings.{layout_is}
use Rattle.r4_list.proofs.Stages.{prints_same}
use Rattle.r4_list.specs.Listing.{IsListing}
use Rattle.r4_list.specs.declared.fault.ListFault.TheVariants.{Device, Size, Memory as NoMemory}
use Rattle.std.specs.BTreeMap.{BTreeMap}
use Rattle.std.specs.Borrow.{GName}
use Rattle.r4_outside.proofs.Moments.{goes_both}
use Rattle.r4_outside.specs.Device.{State, Goes, Rose, TellsReads, lent_to}
use Rattle.r4_search.specs.Pool.{LeavesDevice}
use Rattle.r4_outside.specs.Sink.{SinkState}
use Rattle.r4_replay.proofs.Homes.{home_other}
use Rattle.r4_replay.specs.Homes.{TellsHomes, home_in}
use Rattle.r4_replay.specs.Reading.{Idles}
use Rattle.r4_replay.specs.Replay.{Faulted}
use Rattle.r4_replay.specs.declared.fault.ReplayFault.{ReplayFault}
use Rattle.r4_replay.specs.declared.fault.ReplayFault.TheVariants.{Log as LogRefused, Device as DeviceFailed, Size as BadSize, Memory as NoRoomForLog}
use Rattle.r4_replay.specs.declared.log.Log.{Log}
use Rattle.r4_cell.specs.declared.change.Root.{Root}
use Rattle.r4_search.specs.Pool.{PoolState}
use Rattle.r4_search.specs.declared.pool.FetchFault.TheVariants.{Read, Damaged, Memory as NoRoom}
use Rattle.r4_list.specs.Lists.{Answers, IsListFault, IsNodeRefused, IsOpened, IsPrintCause, IsStopFault, IsUnrefused, PrintsText, log_fault_of, open_fault_of, stop_fault_of}
use Rattle.r4_open.specs.Opening.{IsSettledBy, Opens, bitmaps_misfit, layout_misfit, misfit}
use Rattle.r4_list.specs.Printing.{IsCause, IsDamaged, Prints}
use Rattle.r4_list.specs.declared.fault.ListFault.{ListFault}
use Rattle.r4_list.specs.declared.fault.Stop.{Stop}
use Rattle.r4_list.specs.declared.fault.Stop.TheVariants.{Fetch, Sink, Memory}
use Rattle.r4_open.specs.declared.opened.Opened.{Opened}
use Rattle.r4_open.specs.declared.opened.Unopened.{Unopened}
use Rattle.r4_open.specs.declared.opened.Unopened.TheVariants.{Failed, Layout, Memory as NoBuffer}

-- ---- where nothing was printed

-- a text of which nothing was printed, where no image is refused
text_without : (text : List ℕ) (k : SinkState) (x e : ListFault) → x ≡ e → IsUnrefused e → PrintsText {T = Unit {0}} text k (Err x) k
text_without text k x e is u = record {
  whole = λ before w. tt;
  part = λ before w. nothing_part text before k.written w;
  unrefused = subst IsUnrefused (sym is) u;
}

no_misfit : (b : ℕ) (f : LayoutFault) → misfit b f ≡ None → ⊥
no_misfit b f h = cc

layout_none : {n : ℕ} {image : Image} {m : Content} → HasContent n image m → layout_misfit n image ≡ None
layout_none {n} {image} {m} c = layout_is n n image c.layout.master.0 c.super refl c.layout.master.1 c.layout.format ∙ ap bitmaps_misfit c.layout.bitmaps

pub same_super : (n k : ℕ) (b : List ℕ) (s t : Super40) → n ≡ k → super_of n b ≡ Ok s → super_of k b ≡ Ok t → s ≡ t
same_super n k b s t same e f = cc (same, e, f)

-- a log of an image with a volume is not refused
pub log_text : (first now : State) (k : SinkState) (e : ReplayFault) (x : ListFault) (m : Content) (text : List ℕ) → x ≡ log_fault_of e → Faulted first e now → TellsReads first → HasVolume first.blocks first.seen m → PrintsText {T = Unit {0}} text k (Err x) k
log_text first now k (LogRefused block fault) x m text is f told v = absurd (not_refused _ _ _ _ v.log (f.2 told))
log_text first now k (DeviceFailed clock faults) x m text is f told v = text_without text k x (Device clock faults) is tt
log_text first now k (BadSize blocks) x m text is f told v = text_without text k x (Size blocks) is tt
log_text first now k NoRoomForLog x m text is f told v = text_without text k x NoMemory is tt

-- ---- blocks behind the last one are no originals

home_past : (n : ℕ) (image : Image) (chain : List Txn) (b : ℕ) → HasLog n image chain → 20 < n → n ≤ b → home (chain_pairs chain) b ≡ b
home_past n image chain b h more past = home_other (chain_pairs chain) b b (λ o. ⊎_elim
    (λ is. omega (arith, is, more, past))
    (λ r. ⊎_elim (λ is. omega (arith, is, more, past)) (λ range. let high = range.1 in omega (arith, high, past)) r)
    (first_in_range n (chain_pairs chain) b (chain_in_range n image _ _ chain h.txns) o))

-- the log of a device was read, and then its image was opened
module _ (first d : State) (log : Log) (goes : Goes first d) (seen : d.seen ≡ first.seen) (lawful : IsLawful first.blocks) (tells : TellsReads first → TellsHomes first log) where
  pub settled_by : (image : Image) → TellsReads first → Settles first.blocks first.seen image → IsSettledBy d log.homes image
  settled_by image told settles b =
      let h = tells told in
      let same = one_log _ _ settles.chain h.chain settles.has h.has in
      let is = settles.is ∙ ap (λ (c : List Txn). put_pairs (chain_pairs c) first.seen) same in
      let long = length-put_pairs (chain_pairs h.chain) first.seen ∙ told.blocks in
      ap (λ (i : Image). block_at i b) is ∙ (elim (cases_lt b first.blocks) [
        | inl below ↦ h.settled b below
        | inr past ↦ get_or_past (put_pairs (chain_pairs h.chain) first.seen) b [] (omega (arith, past, long))
            ∙ sym (ap (block_at first.seen) (h.homes b ∙ home_past first.blocks first.seen h.chain b h.has (let low = lawful.0 in omega (arith, low)) (omega (arith, past))) ∙ get_or_past first.seen b [] (omega (arith, past, told.blocks)))
      ]) ∙ ap (λ (i : Image). block_at i (home_in log.homes b)) (sym seen)

  pub image_opened : (o : Opened) (now : State) → Opens d (home_in log.homes) (Ok o) now → IsOpened first
  image_opened o now opens = record {
    lawful = lawful;
    opened = λ told.
        let h = tells told in
        let settles : Settles first.blocks first.seen (put_pairs (chain_pairs h.chain) first.seen) = record { chain = h.chain; has = h.has; is = refl } in (
          put_pairs (chain_pairs h.chain) first.seen,
          settles,
          subst (λ (n : ℕ). layout_misfit n (put_pairs (chain_pairs h.chain) first.seen) ≡ None) goes.blocks (opens (goes.reads.1 told) _ (settled_by _ told settles)).fits,
        );
  }

  pub image_refused : (b : BlockNo) (f : LayoutFault) (now : State) → Opens d (home_in log.homes) (Err (Layout b f)) now → TellsReads first → (image : Image) → Settles first.blocks first.seen image → layout_misfit first.blocks image ≡ misfit b.0 f
  image_refused b f now opens told image settles = subst (λ (n : ℕ). layout_misfit n image ≡ misfit b.0 f) goes.blocks (opens (goes.reads.1 told) image (settled_by image told settles))

  -- the image that the device settles to
  settled_image : TellsReads first → (image : Image) × Settles first.blocks first.seen image
  settled_image told = let h = tells told in (put_pairs (chain_pairs h.chain) first.seen, record { chain = h.chain; has = h.has; is = refl })

  -- what is answered where the image was not opened
  pub open_answer : (now : State) (k : SinkState) (e : Unopened) → Opens d (home_in log.homes) (Err e) now → IsListFault first k (open_fault_of e now.clock now.faults) now k
  open_answer now k Failed opens = let before = goes.faults in (omega (arith, before, opens), refl, refl)
  open_answer now k (Layout b f) opens = (lawful, (λ told. let i = settled_image told in (i.0, i.1, image_refused b f now opens told i.0 i.1)), refl)
  open_answer now k NoBuffer opens = lawful

  -- an image with a volume is opened
  pub open_text : (now : State) (k : SinkState) (e : Unopened) (x : ListFault) (m : Content) (text : List ℕ) → x ≡ open_fault_of e now.clock now.faults → Opens d (home_in log.homes) (Err e) now → TellsReads first → HasVolume first.blocks first.seen m → PrintsText {T = Unit {0}} text k (Err x) k
  open_text now k Failed x m text is opens told v = text_without text k x (Device now.clock now.faults) is tt
  open_text now k (Layout b f) x m text is opens told v =
      let refused = image_refused b f now opens told (put_pairs (chain_pairs v.chain) first.seen) (record { chain = v.chain; has = v.log; is = refl }) in
      absurd (no_misfit _ _ (sym refused ∙ layout_none v.content))
  open_text now k NoBuffer x m text is opens told v = text_without text k x NoMemory is tt

-- opening an image writes nothing
pub opening_stays : (a b : State) → Idles a b → LeavesDevice a b
opening_stays a b i = record { goes = i.goes; idle = record { seen = i.seen; clock = i.clock } }

-- Nothing was written.
pub stays_both : (a b c : State) → LeavesDevice a b → LeavesDevice b c → LeavesDevice a c
stays_both a b c f g = record { goes = goes_both _ _ _ f.goes g.goes; idle = record { seen = g.idle.seen ∙ f.idle.seen; clock = g.idle.clock ∙ f.idle.clock } }

-- ---- where printing stopped

-- what damages a pool over this device is a refused node of the image that it settles to
abbrev pub RefusesWell : BTreeMap ℕ ℕ → Super40 → Root → PoolState → State → Type 0
RefusesWell homes s root old d = (at : ℕ) (fault : CellFault) → IsDamaged root old at fault → TellsReads d → (image : Image) → IsSettledBy d homes image → IsNodeRefused s image at fault

-- the image that a device settled to at first, with its superblock
abbrev pub SettlesBy : BTreeMap ℕ ℕ → Super40 → State → State → Type 0
SettlesBy homes s first d = TellsReads first → (image : Image) → Settles first.blocks first.seen image → TellsReads d × IsSettledBy d homes image × (super_of first.blocks (block_at image 17) ≡ Ok s)

-- why printing over a pool stopped, said of its device
pub print_cause : (homes : BTreeMap ℕ ℕ) (s : Super40) (root : Root) (old new : PoolState) (d now : State) (k l : SinkState) (e : Stop) → old.faults ≡ d.faults → new.faults ≡ now.faults → RefusesWell homes s root old d → IsCause root old k e new l → IsPrintCause homes s d k e now l
print_cause homes s root old new d now k l (Fetch (Read at faults)) same is well c = omega (arith, same, is, c)
print_cause homes s root old new d now k l (Fetch (Damaged at fault)) same is well c = well at.0 fault c
print_cause homes s root old new d now k l (Fetch NoRoom) same is well c = tt
print_cause homes s root old new d now k l Sink same is well c = c
print_cause homes s root old new d now k l Memory same is well c = tt

-- what is answered where printing stopped
pub stop_answer : (homes : BTreeMap ℕ ℕ) (s : Super40) (first d now : State) (k l : SinkState) (e : ListFault) → first.faults ≤ d.faults → IsOpened first → SettlesBy homes s first d → IsStopFault homes s d k e now l → IsListFault first k e now l
stop_answer homes s first d now k l e low is by (stop, c, same) = subst (λ (x : ListFault). IsListFault first k x now l) (sym same) (by_stop stop c)
  where
    by_stop : (stop : Stop) → IsPrintCause homes s d k stop now l → IsListFault first k (stop_fault_of stop now.clock now.faults l.faults) now l
    by_stop (Fetch (Read at faults)) c = (omega (arith, low, c), refl, refl)
    by_stop (Fetch (Damaged at fault)) c = (is, λ told. let i = is.opened told in let f = by told i.0 i.1 in (i.0, i.1, (s, f.2, c f.0 i.0 f.1)))
    by_stop (Fetch NoRoom) c = is.lawful
    by_stop Sink c = (is, c, refl)
    by_stop Memory c = is.lawful

pub stop_answers : {T : Type 0} (homes : BTreeMap ℕ ℕ) (s : Super40) (first d now : State) (k l : SinkState) (r : Result T ListFault) → first.faults ≤ d.faults → IsOpened first → SettlesBy homes s first d → IfErr r (λ e. IsStopFault homes s d k e now l) → IfErr r (λ e. IsListFault first k e now l)
stop_answers homes s first d now k l (Ok x) low is by c = tt
stop_answers homes s first d now k l (Err e) low is by c = stop_answer homes s first d now k l e low is by c

-- a device that was lent
pub lent_answers : {T : Type 0} (homes : BTreeMap ℕ ℕ) (s : Super40) (path : List ℕ) (n n' : GName) (first d now : State) (k l : SinkState) (r : Result T ListFault) → first.faults ≤ d.faults → IsOpened first → SettlesBy homes s first d → Prints k l → ((m : Content) (text : List ℕ) → TellsReads first → HasVolume first.blocks first.seen m → IsListing m path text → PrintsText text k r l) → IfErr r (λ e. IsStopFault homes s (lent_to n d) k e (lent_to n' now) l) → Answers path first k r now l
lent_answers homes s path n n' first d now k l r low is by prints text c = record { printed = prints; text = text; ok = opened r; err = stop_answers homes s first d now k l r low is by (lent r c) }
  where
    opened : {T : Type 0} (r : Result T ListFault) → IfOk r (λ v. IsOpened first)
    opened (Ok x) = is
    opened (Err e) = tt

    lent_cause : (stop : Stop) → IsPrintCause homes s (lent_to n d) k stop (lent_to n' now) l → IsPrintCause homes s d k stop now l
    lent_cause (Fetch (Read at faults)) c = c
    lent_cause (Fetch (Damaged at fault)) c = c
    lent_cause (Fetch NoRoom) c = c
    lent_cause Sink c = c
    lent_cause Memory c = c

    lent : {T : Type 0} (r : Result T ListFault) → IfErr r (λ e. IsStopFault homes s (lent_to n d) k e (lent_to n' now) l) → IfErr r (λ e. IsStopFault homes s d k e now l)
    lent (Ok x) c = tt
    lent (Err e) (stop, c, same) = (stop, lent_cause stop c, same)

-- why the log was not read
pub log_answer : (first now : State) (k : SinkState) (e : ReplayFault) → Faulted first e now → IsListFault first k (log_fault_of e) now k
log_answer first now k (LogRefused block fault) f = (f.0, f.2, refl)
log_answer first now k (DeviceFailed clock faults) f = f
log_answer first now k (BadSize blocks) f = (f.0, subst (λ (n : ℕ). (n < 64) ⊎ (1048576 < n)) f.0 f.1, refl)
log_answer first now k NoRoomForLog f = f.0

pub print_causes : {T : Type 0} (homes : BTreeMap ℕ ℕ) (s : Super40) (root : Root) (old new : PoolState) (d now : State) (k l : SinkState) (r : Result T Stop) → old.faults ≡ d.faults → new.faults ≡ now.faults → RefusesWell homes s root old d → IfErr r (λ e. IsCause root old k e new l) → IfErr r (λ e. IsPrintCause homes s d k e now l)
print_causes homes s root old new d now k l (Ok x) same is well c = c
print_causes homes s root old new d now k l (Err e) same is well c = print_cause homes s root old new d now k l e same is well c

-- the device failed before anything was printed
pub device_answer : (path : List ℕ) (first d now : State) (k : SinkState) (x : ListFault) → x ≡ Device now.clock now.faults → first.faults ≤ d.faults → Rose d.faults now.faults → Answers {T = Unit {0}} path first k (Err x) now k
device_answer path first d now k x is low rose = record {
  printed = prints_same k;
  text = λ m text told v listing. text_without text k x (Device now.clock now.faults) is tt;
  ok = tt;
  err = subst (λ (y : ListFault). IsListFault first k y now k) (sym is) (omega (arith, low, rose), refl, refl);
}
