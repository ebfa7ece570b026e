use Rattle.std.proofs.Common.{◌≡◌, ℕ, ◌<◌, [], ◌∷◌, true, sym, ap, subst, refl, rules, arith}
use Rattle.r4_base.specs.Entries.{IsLawfulEntry}
use Rattle.r4_base.specs.Key.{IsKey, offset_of, rank}
use Rattle.r4_base.specs.Value.{value_of}
use Rattle.r4_base.specs.declared.items.Target.{Target}
use Rattle.r4_base.specs.declared.key.Key.{Key}
use Rattle.r4_base.specs.declared.values.Name.{Name}
use Rattle.r4_base.specs.declared.values.Value.{Value}
use Rattle.r4_base.specs.declared.values.Value.TheVariants.{Byte, Entry}
use Rattle.r4_base.proofs.Keys.{is_key}
use Rattle.r4_reach.specs.r4_leaf.Remade.{filled_tail}
use Rattle.r4_leaf_edits.specs.Making.{IsUnit}
use Rattle.r4_leaf_edits.specs.Suiting.{IsLawfulPut, is_byte}
use Rattle.r4_leaf_edits.proofs.KeyRanks.{key_again}
use Rattle.r4_leaf_edits.proofs.Spelled.{tail_is}
use Rattle.r4_leaf_edits.proofs.values.item_of_value.Goals as goal

lawful_entry : (k : Key) (v : Value) (n : Name) (t : Target) → IsKey k → v ≡ Entry n t → IsLawfulPut (rank k, value_of v) → IsLawfulEntry (record { key = k; target = t; name = n })
lawful_entry k v n t is e h =
    let at : IsLawfulPut (rank k, value_of (Entry n t)) = subst (λ (x : Value). IsLawfulPut (rank k, value_of x)) e h in
    subst (λ (j : Key). IsLawfulEntry (record { key = j; target = t; name = n })) (key_again k is) at

byte_unit : (k : Key) (v : Value) (x : ℕ) → IsKey k → v ≡ Byte x → (is_byte (value_of v) ≡ true → offset_of k < 16384) → IsUnit k (value_of v) (filled_tail k 1 x)
byte_unit k v x is e h =
    let short = h (ap (λ (w : Value). is_byte (value_of w)) e) in
    let tail = tail_is k (x ∷ []) (omega arith) (omega (arith, short)) in
    subst (λ (w : Value). IsUnit k (value_of w) (filled_tail k 1 x)) (sym e) (record { fits = is; units = tail.units; put = tail.put; same = refl; end = tail.end })

pub item_of_entry-requires : goal.item_of_entry-requires
item_of_entry-requires c =
    let is = is_key c.args.key (search rules) (search rules) (search rules) (search rules) (search rules) in
    lawful_entry c.args.key c.args.value.now c.in-Entry.name c.in-Entry.target is c.in-Entry.is c.requires.lawful

pub returns-in-Byte : goal.returns-in-Byte
returns-in-Byte c =
    let is = is_key c.args.key (search rules) (search rules) (search rules) (search rules) (search rules) in
    byte_unit c.args.key c.args.value.now c.in-Byte.byte is c.in-Byte.is c.requires.short
