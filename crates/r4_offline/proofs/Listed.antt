-- What is answered, by what a listing answers.
use Rattle.std.proofs.Common.{◌≡◌, inl, inr, ⊎_elim, ℕ, List, refl, sym, subst, arith, Some, Ok, Err}
use Rattle.r4_base.specs.Value.{Content}
use Rattle.r4_base.specs.Volume.{HasVolume}
use Rattle.r4_outside.specs.Device.{Rose, State, TellsReads}
use Rattle.r4_outside.specs.Sink.{SinkState, AppendsPart}
use Rattle.r4_mkfs.specs.r4_cell.declared.refused.ImageFault.TheVariants.{Layout, Cell}
use Rattle.r4_check_laws.specs.r4_search.Pool.{LeavesDevice}
use Rattle.r4_check_laws.proofs.r4_list.LinesOfPath.{some_listing}
use Rattle.r4_check_laws.specs.r4_list.Lists.{Answers as ListAnswers, IsUnrefused, PrintsText}
use Rattle.r4_check_laws.specs.r4_list.Printing.{Prints as PrintsSome}
use Rattle.r4_check_laws.specs.r4_list.declared.fault.ListFault.{ListFault}
use Rattle.r4_check_laws.specs.r4_list.declared.fault.ListFault.TheVariants.{Log, Image, Device, Size, Sink, Memory}
use Rattle.r4_lines.specs.Printed.{Gets, GetsPart, Prints}
use Rattle.r4_offline.specs.Answers.{Lists, OfListing, TellsListFault}
use Rattle.r4_base.specs.Words.{cell_word_of, layout_word_of, log_word_of}
use Rattle.r4_lines.specs.Lines.{device_line, image_line, size_line}

module _ (path : List ℕ) (d d' : State) (k mid k' : SinkState) (leaves : LeavesDevice d d') where
  -- all of the text was printed
  got : (v : Unit {0}) → PrintsSome k mid → (text : List ℕ) → PrintsText {T = Unit {0}} text k (Ok v) mid → Gets text k mid
  got v some text t = record { told = some.told; faults = some.faults; cause = tt; whole = t.whole; part = λ before is. tt }

  -- the sink failed, and got a prefix of the text
  got_part : (faults : ℕ) → PrintsSome k mid → Rose k.faults mid.faults → (text : List ℕ) → PrintsText {T = Unit {0}} text k (Err (Sink faults)) mid → GetsPart text k mid
  got_part faults some rose text t = record { told = some.told; faults = some.faults; cause = rose; whole = λ before is. tt; part = λ before is. t.part before is }

  pub listed_done : (v : Unit {0}) → ListAnswers path d k (Ok v) d' mid → Lists path d k 0 d' mid
  listed_done v was = record {
    codes = inl refl;
    idle = leaves.idle;
    done = λ is. (was.ok, λ m text tells volume listing. got v was.printed text (was.text m text tells volume listing));
    sink = λ is. absurd (omega (arith, is));
    device = λ is. absurd (omega (arith, is));
    image = λ is. absurd (omega (arith, is));
    size = λ is. absurd (omega (arith, is));
    size_only = λ out. let lawful = was.ok.lawful in absurd (⊎_elim (λ few. omega (arith, few, lawful.0)) (λ many. omega (arith, many, lawful.1)) out);
    memory = λ is. absurd (omega (arith, is));
    complete = λ within m tells volume dev out. inl refl;
  }

  -- of a text that was not printed to its end, a prefix was
  part_of : (fault : ListFault) → ListAnswers {T = Unit {0}} path d k (Err fault) d' mid → OfListing d path (λ text. (before : List ℕ) → k.written ≡ Some before → AppendsPart text before mid.written)
  part_of fault was = λ m text tells volume listing before is. (was.text m text tells volume listing).part before is

  -- an image with a volume is not refused
  unrefused : (fault : ListFault) → ListAnswers {T = Unit {0}} path d k (Err fault) d' mid → (m : Content) → TellsReads d → HasVolume d.blocks d.seen m → IsUnrefused fault
  unrefused fault was m tells volume =
      let (text, listing) = some_listing _ _ m volume.content path in
      (was.text m text tells volume listing).unrefused

  pub listed_fault : (code : ℕ) (fault : ListFault) → ListAnswers {T = Unit {0}} path d k (Err fault) d' mid → TellsListFault fault code mid k' → Lists path d k code d' k'
  listed_fault code (Log block fault) was told = record {
    codes = inr (inr (inr (inl told.0)));
    idle = leaves.idle;
    done = λ is. absurd (omega (arith, is, told.0));
    sink = λ is. absurd (omega (arith, is, told.0));
    device = λ is. absurd (omega (arith, is, told.0));
    image = λ is. (was.err.0, (block.0, log_word_of fault, inl (inl (fault, refl, was.err.1), subst (λ (s : SinkState). Prints (image_line block.0 (log_word_of fault)) s k') was.err.2 told.1)));
    size = λ is. absurd (omega (arith, is, told.0));
    size_only = λ out. let lawful = was.err.0 in absurd (⊎_elim (λ few. omega (arith, few, lawful.0)) (λ many. omega (arith, many, lawful.1)) out);
    memory = λ is. absurd (omega (arith, is, told.0));
    complete = λ within m tells volume dev out. absurd (unrefused (Log block fault) was m tells volume);
  }
  listed_fault code (Image block (Layout fault)) was told = record {
    codes = inr (inr (inr (inl told.0)));
    idle = leaves.idle;
    done = λ is. absurd (omega (arith, is, told.0));
    sink = λ is. absurd (omega (arith, is, told.0));
    device = λ is. absurd (omega (arith, is, told.0));
    image = λ is. (was.err.0, (block.0, layout_word_of fault, inl (inr (fault, refl, was.err.1), subst (λ (s : SinkState). Prints (image_line block.0 (layout_word_of fault)) s k') was.err.2 told.1)));
    size = λ is. absurd (omega (arith, is, told.0));
    size_only = λ out. let lawful = was.err.0 in absurd (⊎_elim (λ few. omega (arith, few, lawful.0)) (λ many. omega (arith, many, lawful.1)) out);
    memory = λ is. absurd (omega (arith, is, told.0));
    complete = λ within m tells volume dev out. absurd (unrefused (Image block (Layout fault)) was m tells volume);
  }
  listed_fault code (Image block (Cell fault)) was told = record {
    codes = inr (inr (inr (inl told.0)));
    idle = leaves.idle;
    done = λ is. absurd (omega (arith, is, told.0));
    sink = λ is. absurd (omega (arith, is, told.0));
    device = λ is. absurd (omega (arith, is, told.0));
    image = λ is. (was.err.0.lawful, (block.0, cell_word_of fault, inr ((fault, refl, was.err.1), record { listed = mid; some = was.printed; part = part_of _ was; then_line = told.1 })));
    size = λ is. absurd (omega (arith, is, told.0));
    size_only = λ out. let lawful = was.err.0.lawful in absurd (⊎_elim (λ few. omega (arith, few, lawful.0)) (λ many. omega (arith, many, lawful.1)) out);
    memory = λ is. absurd (omega (arith, is, told.0));
    complete = λ within m tells volume dev out. absurd (unrefused (Image block (Cell fault)) was m tells volume);
  }
  listed_fault code (Device clock faults) was told = record {
    codes = inr (inr (inl told.0));
    idle = leaves.idle;
    done = λ is. absurd (omega (arith, is, told.0));
    sink = λ is. absurd (omega (arith, is, told.0));
    device = λ is. (was.err.0, record { listed = mid; some = was.printed; part = part_of _ was; then_line = subst (λ (f : ℕ). Prints (device_line d'.clock f) mid k') was.err.2 (subst (λ (c : ℕ). Prints (device_line c faults) mid k') was.err.1 told.1) });
    image = λ is. absurd (omega (arith, is, told.0));
    size = λ is. absurd (omega (arith, is, told.0));
    size_only = λ out. inr told.0;
    memory = λ is. absurd (omega (arith, is, told.0));
    complete = λ within m tells volume dev out. absurd (dev was.err.0);
  }
  listed_fault code (Size blocks) was told = record {
    codes = inr (inr (inr (inr (inl told.0))));
    idle = leaves.idle;
    done = λ is. absurd (omega (arith, is, told.0));
    sink = λ is. absurd (omega (arith, is, told.0));
    device = λ is. absurd (omega (arith, is, told.0));
    image = λ is. absurd (omega (arith, is, told.0));
    size = λ is. (was.err.1, subst (λ (s : SinkState). Prints (size_line d.blocks) s k') was.err.2 (subst (λ (n : ℕ). Prints (size_line n) mid k') was.err.0 told.1));
    size_only = λ out. inl told.0;
    memory = λ is. absurd (omega (arith, is, told.0));
    complete = λ within m tells volume dev out. absurd (⊎_elim (λ few. let low = within.0 in omega (arith, few, low)) (λ many. let high = within.1 in omega (arith, many, high)) was.err.1);
  }
  listed_fault code (Sink faults) was told = record {
    codes = inr (inl told.0);
    idle = leaves.idle;
    done = λ is. absurd (omega (arith, is, told.0));
    sink = λ is. (was.err.0, subst (λ (s : SinkState). Rose k.faults s.faults) (sym told.1) was.err.1, λ m text tells volume listing. subst (λ (s : SinkState). GetsPart text k s) (sym told.1) (got_part faults was.printed was.err.1 text (was.text m text tells volume listing)));
    device = λ is. absurd (omega (arith, is, told.0));
    image = λ is. absurd (omega (arith, is, told.0));
    size = λ is. absurd (omega (arith, is, told.0));
    size_only = λ out. let lawful = was.err.0.lawful in absurd (⊎_elim (λ few. omega (arith, few, lawful.0)) (λ many. omega (arith, many, lawful.1)) out);
    memory = λ is. absurd (omega (arith, is, told.0));
    complete = λ within m tells volume dev out. absurd (out (subst (λ (s : SinkState). Rose k.faults s.faults) (sym told.1) was.err.1));
  }
  listed_fault code Memory was told = record {
    codes = inr (inr (inr (inr (inr told.0))));
    idle = leaves.idle;
    done = λ is. absurd (omega (arith, is, told.0));
    sink = λ is. absurd (omega (arith, is, told.0));
    device = λ is. absurd (omega (arith, is, told.0));
    image = λ is. absurd (omega (arith, is, told.0));
    size = λ is. absurd (omega (arith, is, told.0));
    size_only = λ out. let lawful = was.err in absurd (⊎_elim (λ few. omega (arith, few, lawful.0)) (λ many. omega (arith, many, lawful.1)) out);
    memory = λ is. record { listed = mid; some = was.printed; part = part_of _ was; then_line = told.1 };
    complete = λ within m tells volume dev out. inr told.0;
  }

-- the same fault
pub tells_same : (fault known : ListFault) (code : ℕ) (k k' : SinkState) → fault ≡ known → TellsListFault known code k k' → TellsListFault fault code k k'
tells_same fault known code k k' is told = subst (λ (f : ListFault). TellsListFault f code k k') (sym is) told
