-- What is answered, by what a check answers.
use Rattle.std.proofs.Common.{◌≡◌, ◌≢◌, ◌⊎◌, inl, inr, ⊎_elim, ℕ, ◌+◌, List, [], ◌∷◌, ◌++◌, length, refl, sym, ap, subst, ◌∙◌, append_assoc, arith, Option, Some, None, Result, Ok, Err}
use Rattle.r4_base.specs.Chain.{Settles, chain_pairs}
use Rattle.r4_base.specs.Image.{Image, IsLawful, block_at, put_pairs}
use Rattle.r4_base.specs.Bitmap.{bitmap_fault}
use Rattle.r4_base.specs.Layout.{master_of, super_of}
use Rattle.r4_base.specs.Value.{Content}
use Rattle.r4_base.specs.Volume.{HasLayout, HasVolume}
use Rattle.r4_base.specs.declared.superblock.LayoutFault.{LayoutFault}
use Rattle.r4_base.specs.declared.superblock.Master.{Master}
use Rattle.r4_check_laws.specs.r4_open.Opening.{bitmaps_misfit, format_misfit, layout_misfit, master_misfit}
use Rattle.r4_check_laws.proofs.Found.{volume_there}
use Rattle.r4_check_laws.proofs.Clear.{volume_clear}
use Rattle.r4_base.specs.declared.superblock.Super40.{Super40}
use Rattle.r4_base.specs.Words.{layout_word_of, log_word_of}
use Rattle.r4_outside.specs.Device.{Rose, State, TellsReads}
use Rattle.r4_outside.specs.Sink.{SinkState, AppendsPart}
use Rattle.r4_mkfs.specs.r4_cell.declared.refused.ImageFault.TheVariants.{Layout, Cell}
use Rattle.r4_check_laws.specs.r4_search.Pool.{LeavesDevice}
use Rattle.r4_check_laws.proofs.r4_list.Stages.{appended, prints_both}
use Rattle.r4_check_laws.specs.r4_list.declared.fault.ListFault.{ListFault}
use Rattle.r4_check_laws.specs.r4_list.declared.fault.ListFault.TheVariants.{Log, Image as Refused, Device, Size, Sink, Memory}
use Rattle.r4_lines.specs.Lines.{device_line, image_line, size_line}
use Rattle.r4_lines.specs.Printed.{Gets, GetsPart, Prints}
use Rattle.r4_check_laws.specs.r4_check.Tree.{Checks, PrintsWalk}
use Rattle.r4_check_laws.specs.r4_check.Walk.{check_of, faults_of, objects_met, walk_of}
use Rattle.r4_check_laws.specs.r4_check.declared.tree.Verdict.{Verdict}
use Rattle.r4_check_objects.specs.Faults.{fault_lines}
use Rattle.r4_check_objects.specs.Held.{counted}
use Rattle.r4_check_objects.specs.declared.fault.Fault.{Fault}
use Rattle.r4_offline.specs.Answers.{TellsListFault}
use Rattle.r4_offline.specs.Checks.{ChecksImage, OfChecked, TellsVerdict, check_text, count_line}

no_faults : (fs : List Fault) (n : ℕ) → n ≡ counted (length fs) → n ≡ 0 → fs ≡ []
no_faults [] n is none = refl
no_faults (f ∷ fs) n is none = absurd (let some : length (f ∷ fs) ≡ length fs + 1 = omega arith in omega (arith, is, none, some))

some_faults : (fs : List Fault) (n : ℕ) → n ≡ counted (length fs) → n ≢ 0 → fs ≢ []
some_faults fs n is some empty = some (is ∙ ap (λ (l : List Fault). counted (length l)) empty)

-- superblocks and bitmaps that have no fault are a layout
layout_there : (n : ℕ) (image : Image) → layout_misfit n image ≡ None → (s : Super40) × HasLayout n image s
layout_there n image fits = by_master (master_of (block_at image 16)) refl fits
  where
    by_bitmaps : (m : Master) (s : Super40) → master_of (block_at image 16) ≡ Ok m → super_of n (block_at image 17) ≡ Ok s → (o : Option ℕ) → bitmap_fault s.block_count s.free_blocks image ≡ o → bitmaps_misfit o ≡ None
        → (s : Super40) × HasLayout n image s
    by_bitmaps m s first second None third none = (s, record { master = (m, first); format = second; bitmaps = third })
    by_bitmaps m s first second (Some b) third none = absurd (cc)

    by_format : (m : Master) → master_of (block_at image 16) ≡ Ok m → (r : Result Super40 LayoutFault) → super_of n (block_at image 17) ≡ r → format_misfit image r ≡ None → (s : Super40) × HasLayout n image s
    by_format m first (Ok s) second none = by_bitmaps m s first second (bitmap_fault s.block_count s.free_blocks image) refl none
    by_format m first (Err f) second none = absurd (cc)

    by_master : (r : Result Master LayoutFault) → master_of (block_at image 16) ≡ r → master_misfit n image r ≡ None → (s : Super40) × HasLayout n image s
    by_master (Ok m) first none = by_format m first (super_of n (block_at image 17)) refl none
    by_master (Err f) first none = absurd (cc)

-- the settled image that a volume is the content of
abbrev settled_of : {n : ℕ} {image : Image} {m : Content} → HasVolume n image m → Image
settled_of {n} {image} {m} v = put_pairs (chain_pairs v.chain) image

settles_of : {n : ℕ} {image : Image} {m : Content} → (v : HasVolume n image m) → Settles n image (settled_of v)
settles_of {n} {image} {m} v = record { chain = v.chain; has = v.log; is = refl }

module _ (d d' : State) (k mid k' : SinkState) (leaves : LeavesDevice d d') where
  module _ (v : Verdict) (was : Checks d k (Ok v) d' mid) (image : Image) (s : Super40) (told : TellsReads d) (settles : Settles d.blocks d.seen image) (layout : HasLayout d.blocks image s) where
    walk : PrintsWalk {E = ListFault} (check_of s image) k (Ok v) mid
    walk = (was.tree image s told settles layout).0

    -- the line of the verdict is that of the definition
    line_is : count_line v.objects v.faults ≡ count_line (counted (objects_met (walk_of s image))) (counted (length (faults_of s image)))
    line_is = ap (λ (n : ℕ). count_line n v.faults) walk.verdict.objects ∙ ap (count_line (counted (objects_met (walk_of s image)))) walk.verdict.faults

    both : (before : List ℕ) → (before ++ fault_lines (faults_of s image)) ++ count_line v.objects v.faults ≡ before ++ check_text s image
    both before = append_assoc before (fault_lines (faults_of s image)) (count_line v.objects v.faults) ∙ ap (λ (l : List ℕ). before ++ (fault_lines (faults_of s image) ++ l)) line_is

    got_all : Gets (count_line v.objects v.faults) mid k' → Gets (check_text s image) k k'
    got_all got =
        let some = prints_both k mid k' was.printed (appended (count_line v.objects v.faults) mid k' (Ok tt) got) in
        record {
          told = some.told;
          faults = some.faults;
          cause = tt;
          whole = λ before is. got.whole (before ++ fault_lines (faults_of s image)) (walk.text.whole before is) ∙ ap (λ (l : List ℕ). Some l) (both before);
          part = λ before is. tt;
        }

    got_part : GetsPart (count_line v.objects v.faults) mid k' → GetsPart (check_text s image) k k'
    got_part got =
        let some = prints_both k mid k' was.printed (appended (count_line v.objects v.faults) mid k' (Err tt) got) in
        let low = was.printed.faults in
        let rose = got.cause in
        record {
          told = some.told;
          faults = some.faults;
          cause = omega (arith, low, rose);
          whole = λ before is. tt;
          part = λ before is.
              let p = got.part (before ++ fault_lines (faults_of s image)) (walk.text.whole before is) in
              record {
                part = fault_lines (faults_of s image) ++ p.part;
                rest = p.rest;
                splits = ap (λ (l : List ℕ). fault_lines (faults_of s image) ++ l) (sym line_is ∙ p.splits) ∙ sym (append_assoc (fault_lines (faults_of s image)) p.part p.rest);
                written = p.written ∙ ap (λ (l : List ℕ). Some l) (append_assoc before (fault_lines (faults_of s image)) p.part);
              };
        }

  -- where no fault is found, there is a volume
  volume_of : (v : Verdict) → Checks d k (Ok v) d' mid → v.faults ≡ 0 → TellsReads d → (m : Content) × HasVolume d.blocks d.seen m
  volume_of v was none told =
      let (image, settles, fits) = was.ok.opened told in
      let (s, layout) = layout_there d.blocks image fits in
      volume_there d.blocks d.seen image s told settles layout (no_faults (faults_of s image) v.faults (walk v was image s told settles layout).verdict.faults none)

  -- and where one is found, there is none
  no_volume_of : (v : Verdict) → Checks d k (Ok v) d' mid → v.faults ≢ 0 → TellsReads d → (m : Content) → HasVolume d.blocks d.seen m → ⊥
  no_volume_of v was some told m volume =
      some_faults (faults_of volume.content.super (settled_of volume)) v.faults (walk v was (settled_of volume) volume.content.super told (settles_of volume) volume.content.layout).verdict.faults some
      (volume_clear d.blocks d.seen (settled_of volume) volume.content.super m (settles_of volume) volume.content.layout volume)

  -- what is answered for a volume
  whole_by : (code : ℕ) → (code ≡ 1 → TellsReads d → (m : Content) → HasVolume d.blocks d.seen m → ⊥)
      → (IsLawful d.blocks → OfChecked d (λ s image. (Rose d.faults d'.faults → ⊥) → (Rose k.faults k'.faults → ⊥) → (code ≡ 0) ⊎ ((code ≡ 1) ⊎ (code ≡ 9))))
      → IsLawful d.blocks → TellsReads d → (m : Content) → HasVolume d.blocks d.seen m → (Rose d.faults d'.faults → ⊥) → (Rose k.faults k'.faults → ⊥) → (code ≡ 0) ⊎ (code ≡ 9)
  whole_by code none complete lawful told m volume dev out =
      elim (complete lawful (settled_of volume) volume.content.super told (settles_of volume) volume.content.layout dev out) [
        | inl done ↦ inl done
        | inr (inl found) ↦ absurd (none found told m volume)
        | inr (inr memory) ↦ inr memory
      ]

  pub checked_done : (code : ℕ) (v : Verdict) → Checks d k (Ok v) d' mid → TellsVerdict v code mid k' → ChecksImage d k code d' k'
  checked_done code v was (inl cut) = record {
    codes = inr (inr (inl cut.0));
    idle = leaves.idle;
    done = λ is. absurd (omega (arith, is, cut.0));
    volume = λ is. absurd (omega (arith, is, cut.0));
    no_volume = λ is reads m v. absurd (omega (arith, is, cut.0));
    found = λ is. absurd (omega (arith, is, cut.0));
    sink = λ is. (was.ok, let low = was.printed.faults in let rose = cut.1.cause in omega (arith, low, rose), λ image s told settles layout. got_part v was image s told settles layout cut.1);
    device = λ is. absurd (omega (arith, is, cut.0));
    image = λ is. absurd (omega (arith, is, cut.0));
    size = λ is. absurd (omega (arith, is, cut.0));
    size_only = λ out. let lawful = was.ok.lawful in absurd (⊎_elim (λ few. omega (arith, few, lawful.0)) (λ many. omega (arith, many, lawful.1)) out);
    memory = λ is. absurd (omega (arith, is, cut.0));
    complete = λ lawful image s told settles layout dev out. absurd (out (let low = was.printed.faults in let rose = cut.1.cause in omega (arith, low, rose)));
    whole = whole_by code (λ is reads m v. absurd (omega (arith, is, cut.0))) (λ lawful image s told settles layout dev out. absurd (out (let low = was.printed.faults in let rose = cut.1.cause in omega (arith, low, rose))));
  }
  checked_done code v was (inr (inl none)) = record {
    codes = inl none.0;
    idle = leaves.idle;
    done = λ is. (was.ok, λ image s told settles layout. (no_faults (faults_of s image) v.faults (walk v was image s told settles layout).verdict.faults none.1, got_all v was image s told settles layout none.2));
    volume = λ is told. volume_of v was none.1 told;
    no_volume = λ is reads m v. omega (arith, is, none.0);
    found = λ is. absurd (omega (arith, is, none.0));
    sink = λ is. absurd (omega (arith, is, none.0));
    device = λ is. absurd (omega (arith, is, none.0));
    image = λ is. absurd (omega (arith, is, none.0));
    size = λ is. absurd (omega (arith, is, none.0));
    size_only = λ out. let lawful = was.ok.lawful in absurd (⊎_elim (λ few. omega (arith, few, lawful.0)) (λ many. omega (arith, many, lawful.1)) out);
    memory = λ is. absurd (omega (arith, is, none.0));
    complete = λ lawful image s told settles layout dev out. inl none.0;
    whole = whole_by code (λ is reads m v. omega (arith, is, none.0)) (λ lawful image s told settles layout dev out. inl none.0);
  }
  checked_done code v was (inr (inr some)) = record {
    codes = inr (inl some.0);
    idle = leaves.idle;
    done = λ is. absurd (omega (arith, is, some.0));
    volume = λ is. absurd (omega (arith, is, some.0));
    no_volume = λ is reads m vol. no_volume_of v was some.1 reads m vol;
    found = λ is. (was.ok, λ image s told settles layout. (some_faults (faults_of s image) v.faults (walk v was image s told settles layout).verdict.faults some.1, got_all v was image s told settles layout some.2));
    sink = λ is. absurd (omega (arith, is, some.0));
    device = λ is. absurd (omega (arith, is, some.0));
    image = λ is. absurd (omega (arith, is, some.0));
    size = λ is. absurd (omega (arith, is, some.0));
    size_only = λ out. let lawful = was.ok.lawful in absurd (⊎_elim (λ few. omega (arith, few, lawful.0)) (λ many. omega (arith, many, lawful.1)) out);
    memory = λ is. absurd (omega (arith, is, some.0));
    complete = λ lawful image s told settles layout dev out. inr (inl some.0);
    whole = whole_by code (λ is reads m vol. no_volume_of v was some.1 reads m vol) (λ lawful image s told settles layout dev out. inr (inl some.0));
  }

  -- of the lines that were not printed to their end, a prefix was
  part_of : (fault : ListFault) → Checks d k (Err fault) d' mid → OfChecked d (λ s image. (before : List ℕ) → k.written ≡ Some before → AppendsPart (fault_lines (faults_of s image)) before mid.written)
  part_of fault was = λ image s told settles layout before is. (was.tree image s told settles layout).0.text.part before is

  -- the sink failed within the lines of faults
  lines_part : (faults : ℕ) → Checks d k (Err (Sink faults)) d' mid → Rose k.faults mid.faults → OfChecked d (λ s image. GetsPart (check_text s image) k mid)
  lines_part faults was rose image s told settles layout = record {
    told = was.printed.told;
    faults = was.printed.faults;
    cause = rose;
    whole = λ before is. tt;
    part = λ before is.
        let p = part_of (Sink faults) was image s told settles layout before is in
        let line = count_line (counted (objects_met (walk_of s image))) (counted (length (faults_of s image))) in
        record {
          part = p.part;
          rest = p.rest ++ line;
          splits = ap (λ (l : List ℕ). l ++ line) p.splits ∙ append_assoc p.part p.rest line;
          written = p.written;
        };
  }

  pub checked_fault : (code : ℕ) (fault : ListFault) → Checks d k (Err fault) d' mid → TellsListFault fault code mid k' → ChecksImage d k code d' k'
  checked_fault code (Log block fault) was told = record {
    codes = inr (inr (inr (inr (inl told.0))));
    idle = leaves.idle;
    done = λ is. absurd (omega (arith, is, told.0));
    volume = λ is. absurd (omega (arith, is, told.0));
    no_volume = λ is reads m v. absurd (omega (arith, is, told.0));
    found = λ is. absurd (omega (arith, is, told.0));
    sink = λ is. absurd (omega (arith, is, told.0));
    device = λ is. absurd (omega (arith, is, told.0));
    image = λ is. let e = was.err.0 in (e.0, (block.0, log_word_of fault, inl (fault, refl, e.1), subst (λ (s : SinkState). Prints (image_line block.0 (log_word_of fault)) s k') e.2 told.1));
    size = λ is. absurd (omega (arith, is, told.0));
    size_only = λ out. let lawful = was.err.0.0 in absurd (⊎_elim (λ few. omega (arith, few, lawful.0)) (λ many. omega (arith, many, lawful.1)) out);
    memory = λ is. absurd (omega (arith, is, told.0));
    complete = λ lawful image s tells settles layout dev out. absurd (was.tree image s tells settles layout).1;
    whole = whole_by code (λ is reads m v. absurd (omega (arith, is, told.0))) (λ lawful image s tells settles layout dev out. absurd (was.tree image s tells settles layout).1);
  }
  checked_fault code (Refused block (Layout fault)) was told = record {
    codes = inr (inr (inr (inr (inl told.0))));
    idle = leaves.idle;
    done = λ is. absurd (omega (arith, is, told.0));
    volume = λ is. absurd (omega (arith, is, told.0));
    no_volume = λ is reads m v. absurd (omega (arith, is, told.0));
    found = λ is. absurd (omega (arith, is, told.0));
    sink = λ is. absurd (omega (arith, is, told.0));
    device = λ is. absurd (omega (arith, is, told.0));
    image = λ is. let e = was.err.0 in (e.0, (block.0, layout_word_of fault, inr (fault, refl, e.1), subst (λ (s : SinkState). Prints (image_line block.0 (layout_word_of fault)) s k') e.2 told.1));
    size = λ is. absurd (omega (arith, is, told.0));
    size_only = λ out. let lawful = was.err.0.0 in absurd (⊎_elim (λ few. omega (arith, few, lawful.0)) (λ many. omega (arith, many, lawful.1)) out);
    memory = λ is. absurd (omega (arith, is, told.0));
    complete = λ lawful image s tells settles layout dev out. absurd (was.tree image s tells settles layout).1;
    whole = whole_by code (λ is reads m v. absurd (omega (arith, is, told.0))) (λ lawful image s tells settles layout dev out. absurd (was.tree image s tells settles layout).1);
  }
  checked_fault code (Refused block (Cell fault)) was told = absurd was.err.1
  checked_fault code (Device clock faults) was told = record {
    codes = inr (inr (inr (inl told.0)));
    idle = leaves.idle;
    done = λ is. absurd (omega (arith, is, told.0));
    volume = λ is. absurd (omega (arith, is, told.0));
    no_volume = λ is reads m v. absurd (omega (arith, is, told.0));
    found = λ is. absurd (omega (arith, is, told.0));
    sink = λ is. absurd (omega (arith, is, told.0));
    device = λ is. let e = was.err.0 in (e.0, record { checked = mid; some = was.printed; part = part_of _ was; then_line = subst (λ (f : ℕ). Prints (device_line d'.clock f) mid k') e.2 (subst (λ (c : ℕ). Prints (device_line c faults) mid k') e.1 told.1) });
    image = λ is. absurd (omega (arith, is, told.0));
    size = λ is. absurd (omega (arith, is, told.0));
    size_only = λ out. inr told.0;
    memory = λ is. absurd (omega (arith, is, told.0));
    complete = λ lawful image s tells settles layout dev out. absurd (dev was.err.0.0);
    whole = whole_by code (λ is reads m v. absurd (omega (arith, is, told.0))) (λ lawful image s tells settles layout dev out. absurd (dev was.err.0.0));
  }
  checked_fault code (Size blocks) was told = record {
    codes = inr (inr (inr (inr (inr (inl told.0)))));
    idle = leaves.idle;
    done = λ is. absurd (omega (arith, is, told.0));
    volume = λ is. absurd (omega (arith, is, told.0));
    no_volume = λ is reads m v. absurd (omega (arith, is, told.0));
    found = λ is. absurd (omega (arith, is, told.0));
    sink = λ is. absurd (omega (arith, is, told.0));
    device = λ is. absurd (omega (arith, is, told.0));
    image = λ is. absurd (omega (arith, is, told.0));
    size = λ is. let e = was.err.0 in (e.1, subst (λ (s : SinkState). Prints (size_line d.blocks) s k') e.2 (subst (λ (n : ℕ). Prints (size_line n) mid k') e.0 told.1));
    size_only = λ out. inl told.0;
    memory = λ is. absurd (omega (arith, is, told.0));
    complete = λ lawful image s tells settles layout dev out. absurd (⊎_elim (λ few. let low = lawful.0 in omega (arith, few, low)) (λ many. let high = lawful.1 in omega (arith, many, high)) was.err.0.1);
    whole = whole_by code (λ is reads m v. absurd (omega (arith, is, told.0))) (λ lawful image s tells settles layout dev out. absurd (⊎_elim (λ few. let low = lawful.0 in omega (arith, few, low)) (λ many. let high = lawful.1 in omega (arith, many, high)) was.err.0.1));
  }
  checked_fault code (Sink faults) was told = record {
    codes = inr (inr (inl told.0));
    idle = leaves.idle;
    done = λ is. absurd (omega (arith, is, told.0));
    volume = λ is. absurd (omega (arith, is, told.0));
    no_volume = λ is reads m v. absurd (omega (arith, is, told.0));
    found = λ is. absurd (omega (arith, is, told.0));
    sink = λ is. let e = was.err.0 in (e.0, subst (λ (s : SinkState). Rose k.faults s.faults) (sym told.1) e.1, λ image s tells settles layout. subst (λ (x : SinkState). GetsPart (check_text s image) k x) (sym told.1) (lines_part faults was e.1 image s tells settles layout));
    device = λ is. absurd (omega (arith, is, told.0));
    image = λ is. absurd (omega (arith, is, told.0));
    size = λ is. absurd (omega (arith, is, told.0));
    size_only = λ out. let lawful = was.err.0.0.lawful in absurd (⊎_elim (λ few. omega (arith, few, lawful.0)) (λ many. omega (arith, many, lawful.1)) out);
    memory = λ is. absurd (omega (arith, is, told.0));
    complete = λ lawful image s tells settles layout dev out. absurd (out (subst (λ (s : SinkState). Rose k.faults s.faults) (sym told.1) was.err.0.1));
    whole = whole_by code (λ is reads m v. absurd (omega (arith, is, told.0))) (λ lawful image s tells settles layout dev out. absurd (out (subst (λ (s : SinkState). Rose k.faults s.faults) (sym told.1) was.err.0.1)));
  }
  checked_fault code Memory was told = record {
    codes = inr (inr (inr (inr (inr (inr told.0)))));
    idle = leaves.idle;
    done = λ is. absurd (omega (arith, is, told.0));
    volume = λ is. absurd (omega (arith, is, told.0));
    no_volume = λ is reads m v. absurd (omega (arith, is, told.0));
    found = λ is. absurd (omega (arith, is, told.0));
    sink = λ is. absurd (omega (arith, is, told.0));
    device = λ is. absurd (omega (arith, is, told.0));
    image = λ is. absurd (omega (arith, is, told.0));
    size = λ is. absurd (omega (arith, is, told.0));
    size_only = λ out. let lawful = was.err.0 in absurd (⊎_elim (λ few. omega (arith, few, lawful.0)) (λ many. omega (arith, many, lawful.1)) out);
    memory = λ is. record { checked = mid; some = was.printed; part = part_of _ was; then_line = told.1 };
    complete = λ lawful image s tells settles layout dev out. inr (inr told.0);
    whole = whole_by code (λ is reads m v. absurd (omega (arith, is, told.0))) (λ lawful image s tells settles layout dev out. inr (inr told.0));
  }
