use Rattle.std.proofs.Common.{ℕ, ◌+◌, ◌-◌, ◌<◌, ◌++◌, ◌∷◌, [], ◌∙◌, refl, sym, ap, length, List, arith}
use Rattle.std.proofs.lemmas.List.{length-append}
use Rattle.r4_atoms.specs.Owned.{label_of}
use Rattle.r4_atoms.specs.Atoms.{AtomsSeen, new_row, new_txn, new_atom, TxnSeen}
use Rattle.r4_atoms.proofs.AtomLaws.{length-scripts_seen, length-seen, owner_raw, raw_more, txns-push}
use Rattle.r4_atoms.proofs.KeptLaws.{kept_more, scripts_push}
use Rattle.r4_atoms.proofs.atoms.Atoms.add.Goals as goal

pub push-requires-clause-few : goal.push-requires-clause-few
push-requires-clause-few c = let e = length-seen _ _ _ _ _ _ _ c.self.invariant.0 _ c.self.view_is in omega (arith, c.requires.few)

pub push-requires-2-clause-room : goal.push-requires-2-clause-room
push-requires-2-clause-room c =
    let room = ap (λ (a : AtomsSeen). a.txn_spare) c.self.view_is in
    omega (arith, c.requires.room, c.self.invariant.2.room)

pub push-requires-2-clause-few : goal.push-requires-2-clause-few
push-requires-2-clause-few c =
    let e = length-scripts_seen _ _ _ _ _ _ _ c.self.invariant.0 _ c.self.view_is c.self.inside.scripts.scripts c.self.invariant.2.same in
    omega (arith, c.requires.few)

pub overflow_cast-result : goal.overflow_cast-result
overflow_cast-result c =
    let e = length-seen _ _ _ _ _ _ _ c.self.invariant.0 _ c.self.view_is in
    let more = length-append c.self.inside.rows.items (new_row c.args.script ∷ []) in
    let items = ap length c.push_row.ensures.items in
    omega (arith, c.requires.few, c.len.ensures, c.push_row.new.rows.ok, c.self.invariant.0.same_rows)

pub invariant_of-self : goal.invariant_of-self
invariant_of-self c =
    let i = c.self.inside in
    let k = c.self.invariant.0 in
    let e = length-seen _ _ _ _ _ _ _ c.self.invariant.0 _ c.self.view_is in
    let room = ap (λ (a : AtomsSeen). a.txn_spare) c.self.view_is in
    let few : length i.forest.names < 4294967295 = omega (arith, c.requires.few) in
    let more_rows = length-append i.rows.items (new_row c.args.script ∷ []) in
    let more_states = length-append i.states.items (new_atom ∷ []) in
    rw (c.push_row.ensures.items, c.push_state.ensures.items, c.push.ensures.names, c.push.ensures.spare) (
      kept_more i.forest.names i.rows.items i.states.items i.owners.entries i.low c.args.script k few,
      record {
        rows_fit = omega (arith, c.requires.room, c.push_row.ensures.capacity, c.self.invariant.1.rows_fit);
        states_fit = omega (arith, c.requires.room, c.push_state.ensures.capacity, c.self.invariant.1.states_fit);
      },
      record {
        same = c.push-2.ensures.scripts ∙ ap (λ (ts : List ℕ). ts ++ c.args.script.0 ∷ []) c.self.invariant.2.same ∙ sym (scripts_push i.rows.items c.args.script);
        room = omega (arith, c.push-2.ensures.spare, c.self.invariant.2.room);
      },
    )

pub returns-clause-number : goal.returns-clause-number
returns-clause-number c =
    let e = length-seen _ _ _ _ _ _ _ c.self.invariant.0 _ c.self.view_is in
    let more = length-append c.self.inside.rows.items (new_row c.args.script ∷ []) in
    let items = ap length c.push_row.ensures.items in
    omega (arith, c.len.ensures, c.push_row.new.rows.ok, c.self.invariant.0.same_rows)

pub returns-clause-txns : goal.returns-clause-txns
returns-clause-txns c =
    let i = c.self.inside in
    let k = c.self.invariant.0 in
    let e = length-seen _ _ _ _ _ _ _ c.self.invariant.0 _ c.self.view_is in
    let seen = ap (λ (a : AtomsSeen). a.txns) c.self.view_is in
    rw (c.push_row.ensures.items, c.push.ensures.names) (txns-push i.rows.items i.forest.names (new_row c.args.script) (length i.forest.names) k.same_rows
    ∙ ap (λ (ts : List TxnSeen). ts ++ new_txn c.args.script.0 (length i.forest.names + 1) ∷ []) seen ∙ ap (λ (n : ℕ). c.args.self.now.txns ++ new_txn c.args.script.0 (n + 1) ∷ []) (sym e))

pub returns-clause-owners : goal.returns-clause-owners
returns-clause-owners c n =
    let i = c.self.inside in
    let k = c.self.invariant.0 in
    let e = length-seen _ _ _ _ _ _ _ c.self.invariant.0 _ c.self.view_is in
    let few : length i.forest.names < 4294967295 = omega (arith, c.requires.few) in
    let more = kept_more i.forest.names i.rows.items i.states.items i.owners.entries i.low c.args.script k few in
    let old = owner_raw _ _ _ _ _ _ _ c.self.invariant.0 _ c.self.view_is n in
    let new = owner_raw _ _ _ _ _ i.owners.spare (i.forest.spare - 1) more _ refl n in
    rw (c.push_row.ensures.items, c.push_state.ensures.items, c.push.ensures.names, c.push.ensures.spare) (new ∙ raw_more i.forest.names i.states.items (length i.forest.names) (label_of n i.owners.entries) k.same_states k.named (λ t found. k.begun n t found) ∙ sym old)
