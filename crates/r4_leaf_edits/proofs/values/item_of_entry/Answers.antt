use Rattle.std.proofs.Common.{◌≡◌, ℕ, List, [], length, take, get_or, sym, ap, subst, ◌∙◌, rules, arith}
use Rattle.std.specs.Prelude.{◌<◌, Option, None}
use Rattle.std.specs.List.{insert}
use Rattle.std.specs.Option.{is_some, option_copied}
use Rattle.std.proofs.lemmas.List.{take_all, with_items_is}
use Rattle.r4_base.specs.Dir.{Entry, dir_fault, entries_of}
use Rattle.r4_base.specs.Entries.{IsLawfulEntry, first_key}
use Rattle.r4_base.specs.Key.{IsKey}
use Rattle.r4_base.specs.Value.{Entry as EntryValue}
use Rattle.r4_base.specs.declared.key.Key.{Key}
use Rattle.r4_base.specs.declared.items.Target.{Target}
use Rattle.r4_base.proofs.Keys.{is_key}
use Rattle.r4_base.proofs.Names.{is_name}
use Rattle.r4_base.proofs.Numbers.{AreBytes}
use Rattle.r4_reach.specs.r4_cde.Edits.{given_entry, used_with}
use Rattle.r4_reach.specs.r4_leaf.Filling.{long_of}
use Rattle.r4_reach.proofs.r4_leaf.EntryWritten.{form, given, goes_between, has_entry, used_is}
use Rattle.r4_leaf_edits.specs.Making.{IsUnit}
use Rattle.r4_leaf_edits.proofs.Spelled.{empty_item, entry_unit_is, receives}
use Rattle.r4_leaf_edits.proofs.values.item_of_entry.Goals as goal

abbrev the_entry : Key → List ℕ → Target → Entry
the_entry k n t = record { key = k; target = t; name = n }

bytes_as : (xs ys : List ℕ) → xs ≡ ys → ((k : ℕ) → get_or xs k 0 < 256) → AreBytes ys
bytes_as xs ys e h = subst AreBytes e h

-- the body that was written, which has the whole of its room
written : (k : Key) (n : List ℕ) (t : Target) (long : Option (List ℕ)) (used : ℕ) (new : List ℕ) → IsLawfulEntry (the_entry k n t) → AreBytes n → IsKey k → long ≡ long_of n
    → used ≡ used_with 0 long → length new ≡ used_with 0 (long_of n)
    → entries_of k (take used new) ≡ insert (entries_of k []) 0 (given_entry k t long)
    → dir_fault (first_key k (take used new)) (take used new) ≡ None
    → IsUnit k (EntryValue n t) (record { key = k; plugin = 2; body = new })
written k n t long used new lawful bytes is same at room entries good =
    let e = the_entry k n t in
    let all : take used new ≡ new = take_all used new (let a : used ≡ used_with 0 (long_of n) = at ∙ ap (used_with 0) same in omega (arith, a, room)) in
    let told : entries_of k new ≡ insert (entries_of k []) 0 e =
    ap (entries_of k) (sym all) ∙ entries ∙ ap (λ (x : Entry). insert (entries_of k []) 0 x) (ap (given_entry k t) same ∙ given e lawful bytes) in
    let sound : dir_fault (first_key k new) new ≡ None = subst (λ (b : List ℕ). dir_fault (first_key k b) b ≡ None) all good in
    entry_unit_is e new is (has_entry (empty_item k) 0 0 e (receives e is) new told sound (room ∙ used_is e lawful bytes 0))

pub room_of-requires : goal.room_of-requires
room_of-requires c = let few = (is_name c.args.name.now c.requires.legal).few in let n = ap length c.as_slice-name.ensures in omega (arith, few, n)

pub insert-requires-clause-short : goal.insert-requires-clause-short
insert-requires-clause-short c = let n = c.deref_mut.ensures.len in let m = c.in_ok-body.ensures.len in let few = c.room_of.ensures.small in omega (arith, n, m, few)

pub insert-requires-clause-room : goal.insert-requires-clause-room
insert-requires-clause-room c =
    let n = c.deref_mut.ensures.len in
    let m = c.in_ok-body.ensures.len in
    let room = c.room_of.ensures.room in
    let same = ap (used_with 0) c.long_name-long.ensures.long in
    omega (arith, n, m, room, same)

pub insert-requires-clause-form : goal.insert-requires-clause-form
insert-requires-clause-form c =
    let bytes = bytes_as c.as_slice-name.result.now c.args.name.now c.as_slice-name.ensures c.long_name-long.ensures.bytes in
    form (the_entry c.args.key c.args.name.now c.args.target.now) c.requires bytes ∙ ap (λ (o : Option (List ℕ)). is_some o) (sym (c.long_name-long.ensures.long ∙ ap long_of c.as_slice-name.ensures))

pub insert-requires-clause-entry : goal.insert-requires-clause-entry
insert-requires-clause-entry c =
    let bytes = bytes_as c.as_slice-name.result.now c.args.name.now c.as_slice-name.ensures c.long_name-long.ensures.bytes in
    let same = c.long_name-long.ensures.long ∙ ap long_of c.as_slice-name.ensures in
    subst IsLawfulEntry (sym (ap (given_entry c.args.key c.args.target.now) same ∙ given (the_entry c.args.key c.args.name.now c.args.target.now) c.requires bytes)) c.requires

pub insert-requires-clause-between : goal.insert-requires-clause-between
insert-requires-clause-between c =
    let e = the_entry c.args.key c.args.name.now c.args.target.now in
    let is = is_key c.args.key (search rules) (search rules) (search rules) (search rules) (search rules) in
    goes_between (empty_item c.args.key) 0 0 e (receives e is)

pub returns : goal.returns
returns c =
    let bytes = bytes_as c.as_slice-name.result.now c.args.name.now c.as_slice-name.ensures c.long_name-long.ensures.bytes in
    let is = is_key c.args.key (search rules) (search rules) (search rules) (search rules) (search rules) in
    let long : length c.insert.new.body ≡ c.in_ok-body.body.len = c.insert.auto.body ∙ c.deref_mut.ensures.len in
    let room : length c.insert.new.body ≡ used_with 0 (long_of c.args.name.now) = long ∙ c.in_ok-body.ensures.len ∙ c.room_of.ensures.room ∙ ap (λ (n : List ℕ). used_with 0 (long_of n)) c.as_slice-name.ensures in
    subst (λ (b : List ℕ). IsUnit c.args.key (EntryValue c.args.name.now c.args.target.now) (record { key = c.args.key; plugin = 2; body = b }))
    (sym (with_items_is c.in_ok-body.body c.insert.new.body long))
    (written c.args.key c.args.name.now c.args.target.now (option_copied c.long_name-long.result) c.insert.result c.insert.new.body c.requires bytes is
    (c.long_name-long.ensures.long ∙ ap long_of c.as_slice-name.ensures) c.insert.ensures.used room c.insert.ensures.entries c.insert.ensures.lawful)
