use Rattle.std.proofs.Common.{◌≡◌, ◌⊎◌, ℕ, ◌+◌, List, length, take, sym, ap, subst, ◌∙◌, arith}
use Rattle.std.specs.Prelude.{None, Option}
use Rattle.std.specs.List.{insert}
use Rattle.std.specs.Option.{is_some, option_copied}
use Rattle.std.proofs.lemmas.List.{take_all}
use Rattle.r4_base.specs.Dir.{Entry, dir_fault, entries_of, entry_count}
use Rattle.r4_base.proofs.Numbers.{AreBytes}
use Rattle.r4_leaf.specs.Filling.{entry_need, long_of}
use Rattle.r4_base.specs.Entries.{IsLawfulEntry, first_key}
use Rattle.r4_cde.specs.Edits.{GoesBetween, given_entry, used_with}
use Rattle.r4_cde.specs.Shown.{entry_shown}
use Rattle.r4_leaf.proofs.EntryWritten.{at_count, form, given, goes_between, good_before, has_entry, used_is}
use Rattle.r4_leaf.proofs.entries.write_entry.Goals as goal

pub insert-requires-clause-room : goal.insert-requires-clause-room
insert-requires-clause-room c =
    let u = used_is (entry_shown c.args.entry.now) c.requires.lawful c.long_name-long.ensures.bytes c.args.used in
    let o = ap (used_with c.from.result) c.long_name-long.ensures.long in
    let f = c.from.ensures in
    let same = ap (λ n. used_with n (option_copied c.long_name-long.result)) f in
    let other = ap (used_with c.args.used) c.long_name-long.ensures.long in
    let long = c.requires.long in
    omega (arith, u, same, other, long)

pub insert-requires-clause-lawful : goal.insert-requires-clause-lawful
insert-requires-clause-lawful c =
    let it = c.requires.item in
    let body : take c.from.result c.args.body.now ≡ it.0.body = ap (λ n. take n c.args.body.now) c.from.ensures ∙ it.2 in
    subst (λ (b : List ℕ). (length b ≡ 0) ⊎ (dir_fault (first_key c.args.entry.now.key b) b ≡ None)) (sym body) (good_before it.0 c.args.used c.args.at (entry_shown c.args.entry.now) it.1)

pub insert-requires-clause-within : goal.insert-requires-clause-within
insert-requires-clause-within c =
    let it = c.requires.item in
    let body : take c.from.result c.args.body.now ≡ it.0.body = ap (λ n. take n c.args.body.now) c.from.ensures ∙ it.2 in
    let at = at_count it.0 c.args.used c.args.at (entry_shown c.args.entry.now) it.1 in
    let count = ap entry_count body in
    omega (arith, at, count)

pub insert-requires-clause-form : goal.insert-requires-clause-form
insert-requires-clause-form c = form (entry_shown c.args.entry.now) c.requires.lawful c.long_name-long.ensures.bytes ∙ ap (λ (o : Option (List ℕ)). is_some o) (sym c.long_name-long.ensures.long)

pub insert-requires-clause-entry : goal.insert-requires-clause-entry
insert-requires-clause-entry c =
    let same = ap (given_entry c.args.entry.now.key c.args.entry.now.target) c.long_name-long.ensures.long ∙ given (entry_shown c.args.entry.now) c.requires.lawful c.long_name-long.ensures.bytes in
    subst IsLawfulEntry (sym same) c.requires.lawful

pub insert-requires-clause-between : goal.insert-requires-clause-between
insert-requires-clause-between c =
    let it = c.requires.item in
    let body : take c.from.result c.args.body.now ≡ it.0.body = ap (λ n. take n c.args.body.now) c.from.ensures ∙ it.2 in
    subst (λ (b : List ℕ). GoesBetween (entries_of c.args.entry.now.key b) c.args.at c.args.entry.now.key) (sym body) (goes_between it.0 c.args.used c.args.at (entry_shown c.args.entry.now) it.1)

written : (result from used : ℕ) (old new body : List ℕ) (e : Entry) (long : Option (List ℕ)) → IsLawfulEntry e → AreBytes e.name → long ≡ long_of e.name → from ≡ used → length old ≡ used + entry_need used e → length new ≡ length old → result ≡ used_with from long → take result new ≡ new
written result from used old new body e long lawful bytes is_long is_from room kept is =
    let u = used_is e lawful bytes used in
    let a = ap (λ n. used_with n long) is_from in
    let b = ap (used_with used) is_long in
    take_all result new (omega (arith, u, a, b, room, kept, is))

pub returns : goal.returns
returns c = λ it r is.
    let whole : take c.insert.result c.insert.new.body ≡ c.insert.new.body = written c.insert.result c.from.result c.args.used c.args.body.now c.insert.new.body it.body (entry_shown c.args.entry.now) (option_copied c.long_name-long.result) c.requires.lawful c.long_name-long.ensures.bytes c.long_name-long.ensures.long c.from.ensures c.requires.long (c.insert.auto.body) c.insert.ensures.used in
    let body : take c.from.result c.args.body.now ≡ it.body = ap (λ n. take n c.args.body.now) c.from.ensures ∙ is in
    let same : given_entry c.args.entry.now.key c.args.entry.now.target (option_copied c.long_name-long.result) ≡ entry_shown c.args.entry.now = ap (given_entry c.args.entry.now.key c.args.entry.now.target) c.long_name-long.ensures.long ∙ given (entry_shown c.args.entry.now) c.requires.lawful c.long_name-long.ensures.bytes in
    let entries : entries_of c.args.entry.now.key c.insert.new.body ≡ insert (entries_of c.args.entry.now.key it.body) c.args.at (entry_shown c.args.entry.now) =
    ap (entries_of c.args.entry.now.key) (sym whole) ∙ (c.insert.ensures.entries ∙ (λ i. insert (entries_of c.args.entry.now.key (body i)) c.args.at (same i))) in
    let lawful : dir_fault (first_key c.args.entry.now.key c.insert.new.body) c.insert.new.body ≡ None = subst (λ (b : List ℕ). dir_fault (first_key c.args.entry.now.key b) b ≡ None) whole c.insert.ensures.lawful in
    let long = c.requires.long in let kept = c.insert.auto.body in let own = r.long in let more = ap (λ n. entry_need n (entry_shown c.args.entry.now)) own in
    has_entry it c.args.used c.args.at (entry_shown c.args.entry.now) r c.insert.new.body entries lawful (omega (arith, long, kept, own, more))
