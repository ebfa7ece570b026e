-- What is answered, by what mkfs answers.
use Rattle.std.proofs.Common.{◌≡◌, inl, inr, ⊎_elim, ℕ, List, sym, subst, arith, Err}
use Rattle.r4_outside.specs.Device.{State}
use Rattle.r4_outside.specs.Sink.{SinkState}
use Rattle.r4_mkfs.specs.Mkfs.{Answers}
use Rattle.r4_mkfs.specs.declared.fault.MkfsFault.{MkfsFault}
use Rattle.r4_mkfs.specs.declared.fault.MkfsFault.TheVariants.{Small, Large, Device, Memory}
use Rattle.r4_lines.specs.Printed.{Prints}
use Rattle.r4_offline.specs.Answers.{Makes, TellsMkfsFault}
use Rattle.r4_lines.specs.Lines.{device_line, size_line}

module _ (label : List ℕ) (d d' : State) (k k' : SinkState) where
  pub told_fault : (code : ℕ) (fault : MkfsFault) → Answers label d (Err fault) d' → TellsMkfsFault fault code k k' → Makes label d k code d' k'
  told_fault code (Device clock faults) was told = record {
    codes = inr (inr (inl told.0));
    done = λ is. absurd (omega (arith, is, told.0));
    sink = λ is. absurd (omega (arith, is, told.0));
    device = λ is. (was.0, subst (λ (f : ℕ). Prints (device_line d'.clock f) k k') was.2 (subst (λ (c : ℕ). Prints (device_line c faults) k k') was.1 told.1));
    size = λ is. absurd (omega (arith, is, told.0));
    size_only = λ out. inr told.0;
    memory = λ is. absurd (omega (arith, is, told.0));
    complete = λ lawful dev out. absurd (dev was.0);
  }
  told_fault code (Small blocks) was told = record {
    codes = inr (inr (inr (inl told.0)));
    done = λ is. absurd (omega (arith, is, told.0));
    sink = λ is. absurd (omega (arith, is, told.0));
    device = λ is. absurd (omega (arith, is, told.0));
    size = λ is. (inl (omega (arith, was.0, was.1)), was.2, subst (λ (n : ℕ). Prints (size_line n) k k') was.0 told.1);
    size_only = λ out. inl told.0;
    memory = λ is. absurd (omega (arith, is, told.0));
    complete = λ lawful dev out. absurd (omega (arith, was.0, was.1, lawful.0));
  }
  told_fault code (Large blocks) was told = record {
    codes = inr (inr (inr (inl told.0)));
    done = λ is. absurd (omega (arith, is, told.0));
    sink = λ is. absurd (omega (arith, is, told.0));
    device = λ is. absurd (omega (arith, is, told.0));
    size = λ is. (inr (omega (arith, was.0, was.1)), was.2, subst (λ (n : ℕ). Prints (size_line n) k k') was.0 told.1);
    size_only = λ out. inl told.0;
    memory = λ is. absurd (omega (arith, is, told.0));
    complete = λ lawful dev out. absurd (omega (arith, was.0, was.1, lawful.1));
  }
  told_fault code Memory was told = record {
    codes = inr (inr (inr (inr told.0)));
    done = λ is. absurd (omega (arith, is, told.0));
    sink = λ is. absurd (omega (arith, is, told.0));
    device = λ is. absurd (omega (arith, is, told.0));
    size = λ is. absurd (omega (arith, is, told.0));
    size_only = λ out. absurd (⊎_elim (λ few. omega (arith, few, was.0.0)) (λ many. omega (arith, many, was.0.1)) out);
    memory = λ is. (was.1, told.1);
    complete = λ lawful dev out. inr told.0;
  }

-- the same fault
pub tells_same : (fault known : MkfsFault) (code : ℕ) (k k' : SinkState) → fault ≡ known → TellsMkfsFault known code k k' → TellsMkfsFault fault code k k'
tells_same fault known code k k' is told = subst (λ (f : MkfsFault). TellsMkfsFault f code k k') (sym is) told
