use Rattle.std.proofs.Common.{◌≡◌, ◌+◌, ◌-◌, ◌*◌, ℕ, arith}
use Rattle.std.specs.Prelude.{slice_range}
use Rattle.r4_base.specs.Bytes.{overwrite}
use Rattle.r4_base.specs.Dir.{entry_header}
use Rattle.r4_cde.proofs.Splices.{Moved, Counted, moved, counted, first_offsets, second_offsets, spliced}
use Rattle.r4_cde.proofs.splice.Splice.apply.Goals as goal

pub shift_offsets-requires-clause-enough : goal.shift_offsets-requires-clause-enough
shift_offsets-requires-clause-enough c =
    let headers : c.header_of-headers.result ≡ entry_header c.args.self.at = c.header_of-headers.ensures in
    let come = c.from-come.result in
    let gone = c.from-gone.result in
    let end : ℕ = c.args.used + c.args.self.new - c.args.self.old in
    let second : c.move_bytes-2.new.b ≡ overwrite (entry_header c.args.self.at + 26 * come) (slice_range c.move_bytes.new.b (entry_header c.args.self.at + 26 * gone) end) c.move_bytes.new.b = rw headers at c.move_bytes-2.ensures in
    let mv : Moved c.args.self c.args.used c.args.body.now c.move_bytes-2.new.b = moved c.args.self c.args.used come gone end c.args.body.now c.move_bytes.new.b c.move_bytes-2.new.b c.requires c.from-come.ensures c.from-gone.ensures (omega arith) c.move_bytes.ensures second in
    let m : ℕ = c.get16.result + c.args.self.come - c.args.self.gone in
    let co : Counted m c.move_bytes-2.new.b c.put16.new.b = counted m c.move_bytes-2.new.b c.put16.new.b (omega arith) (omega arith) c.put16.ensures in
    λ k zero lt. let stands = (first_offsets c.args.self c.args.used m c.args.body.now c.move_bytes-2.new.b c.put16.new.b c.requires mv co k lt).0 in omega arith

pub shift_offsets-requires-clause-small : goal.shift_offsets-requires-clause-small
shift_offsets-requires-clause-small c =
    let headers : c.header_of-headers.result ≡ entry_header c.args.self.at = c.header_of-headers.ensures in
    let come = c.from-come.result in
    let gone = c.from-gone.result in
    let end : ℕ = c.args.used + c.args.self.new - c.args.self.old in
    let second : c.move_bytes-2.new.b ≡ overwrite (entry_header c.args.self.at + 26 * come) (slice_range c.move_bytes.new.b (entry_header c.args.self.at + 26 * gone) end) c.move_bytes.new.b = rw headers at c.move_bytes-2.ensures in
    let mv : Moved c.args.self c.args.used c.args.body.now c.move_bytes-2.new.b = moved c.args.self c.args.used come gone end c.args.body.now c.move_bytes.new.b c.move_bytes-2.new.b c.requires c.from-come.ensures c.from-gone.ensures (omega arith) c.move_bytes.ensures second in
    let m : ℕ = c.get16.result + c.args.self.come - c.args.self.gone in
    let co : Counted m c.move_bytes-2.new.b c.put16.new.b = counted m c.move_bytes-2.new.b c.put16.new.b (omega arith) (omega arith) c.put16.ensures in
    λ k zero lt. let stands = (first_offsets c.args.self c.args.used m c.args.body.now c.move_bytes-2.new.b c.put16.new.b c.requires mv co k lt).1 in omega arith

pub shift_offsets-requires-2-clause-enough : goal.shift_offsets-requires-2-clause-enough
shift_offsets-requires-2-clause-enough c =
    let headers : c.header_of-headers.result ≡ entry_header c.args.self.at = c.header_of-headers.ensures in
    let come = c.from-come.result in
    let gone = c.from-gone.result in
    let end : ℕ = c.args.used + c.args.self.new - c.args.self.old in
    let second : c.move_bytes-2.new.b ≡ overwrite (entry_header c.args.self.at + 26 * come) (slice_range c.move_bytes.new.b (entry_header c.args.self.at + 26 * gone) end) c.move_bytes.new.b = rw headers at c.move_bytes-2.ensures in
    let mv : Moved c.args.self c.args.used c.args.body.now c.move_bytes-2.new.b = moved c.args.self c.args.used come gone end c.args.body.now c.move_bytes.new.b c.move_bytes-2.new.b c.requires c.from-come.ensures c.from-gone.ensures (omega arith) c.move_bytes.ensures second in
    let m : ℕ = c.get16.result + c.args.self.come - c.args.self.gone in
    let co : Counted m c.move_bytes-2.new.b c.put16.new.b = counted m c.move_bytes-2.new.b c.put16.new.b (omega arith) (omega arith) c.put16.ensures in
    λ k ge lt. let stands = (second_offsets c.args.self c.args.used m (26 * come) (26 * gone) c.args.body.now c.move_bytes-2.new.b c.put16.new.b c.shift_offsets.new.body c.requires mv co (omega arith) c.shift_offsets.ensures (omega arith) k ge lt).0 in omega arith

pub shift_offsets-requires-2-clause-small : goal.shift_offsets-requires-2-clause-small
shift_offsets-requires-2-clause-small c =
    let headers : c.header_of-headers.result ≡ entry_header c.args.self.at = c.header_of-headers.ensures in
    let come = c.from-come.result in
    let gone = c.from-gone.result in
    let end : ℕ = c.args.used + c.args.self.new - c.args.self.old in
    let second : c.move_bytes-2.new.b ≡ overwrite (entry_header c.args.self.at + 26 * come) (slice_range c.move_bytes.new.b (entry_header c.args.self.at + 26 * gone) end) c.move_bytes.new.b = rw headers at c.move_bytes-2.ensures in
    let mv : Moved c.args.self c.args.used c.args.body.now c.move_bytes-2.new.b = moved c.args.self c.args.used come gone end c.args.body.now c.move_bytes.new.b c.move_bytes-2.new.b c.requires c.from-come.ensures c.from-gone.ensures (omega arith) c.move_bytes.ensures second in
    let m : ℕ = c.get16.result + c.args.self.come - c.args.self.gone in
    let co : Counted m c.move_bytes-2.new.b c.put16.new.b = counted m c.move_bytes-2.new.b c.put16.new.b (omega arith) (omega arith) c.put16.ensures in
    λ k ge lt. let stands = (second_offsets c.args.self c.args.used m (26 * come) (26 * gone) c.args.body.now c.move_bytes-2.new.b c.put16.new.b c.shift_offsets.new.body c.requires mv co (omega arith) c.shift_offsets.ensures (omega arith) k ge lt).1 in omega arith

pub returns : goal.returns
returns c =
    let headers : c.header_of-headers.result ≡ entry_header c.args.self.at = c.header_of-headers.ensures in
    let come = c.from-come.result in
    let gone = c.from-gone.result in
    let end : ℕ = c.args.used + c.args.self.new - c.args.self.old in
    let second : c.move_bytes-2.new.b ≡ overwrite (entry_header c.args.self.at + 26 * come) (slice_range c.move_bytes.new.b (entry_header c.args.self.at + 26 * gone) end) c.move_bytes.new.b = rw headers at c.move_bytes-2.ensures in
    let mv : Moved c.args.self c.args.used c.args.body.now c.move_bytes-2.new.b = moved c.args.self c.args.used come gone end c.args.body.now c.move_bytes.new.b c.move_bytes-2.new.b c.requires c.from-come.ensures c.from-gone.ensures (omega arith) c.move_bytes.ensures second in
    let m : ℕ = c.get16.result + c.args.self.come - c.args.self.gone in
    let co : Counted m c.move_bytes-2.new.b c.put16.new.b = counted m c.move_bytes-2.new.b c.put16.new.b (omega arith) (omega arith) c.put16.ensures in
    spliced c.args.self c.args.used m (c.args.used + c.args.self.new - c.args.self.old + 26 * come - 26 * gone) (26 * come) (26 * gone) c.args.body.now c.move_bytes-2.new.b c.put16.new.b c.shift_offsets.new.body c.shift_offsets-2.new.body c.requires mv co (omega arith) (omega arith) (omega arith) c.shift_offsets.ensures c.shift_offsets-2.ensures (omega arith)
