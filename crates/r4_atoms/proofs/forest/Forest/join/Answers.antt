use Rattle.std.proofs.Common.{◌≡◌, ◌<◌, ◌++◌, ◌∙◌, ap, sym, subst, length, arith, List, get_or, take, drop, map}
use Rattle.std.proofs.lemmas.List.{take_at}
use Rattle.r4_atoms.specs.declared.forest.Link.{Link}
use Rattle.r4_atoms.specs.Names.{Names, renamed}
use Rattle.r4_atoms.specs.Forest.{HasRoom, linked, names_of, root_of}
use Rattle.r4_atoms.proofs.ForestLaws.{HasRoom-under_gone, HasRoom-under_kept, length-names, names-under_gone, names-under_kept, tops_differ}
use Rattle.r4_atoms.proofs.forest.Forest.join.Goals as goal

pub root-left-requires-clause-within : goal.root-left-requires-clause-within
root-left-requires-clause-within c =
    let same = length-names c.self.inside.links.items in
    let e = ap (λ (n : Names). length n.names) c.self.view_is in
    rw c.as_slice.ensures.value (omega arith)

pub root-right-requires-clause-within : goal.root-right-requires-clause-within
root-right-requires-clause-within c =
    let same = length-names c.self.inside.links.items in
    let e = ap (λ (n : Names). length n.names) c.self.view_is in
    rw c.as_slice-2.ensures.value (omega arith)

pub put_under-requires-else-index-clause-differ : goal.put_under-requires-else-index-clause-differ
put_under-requires-else-index-clause-differ c h =
    let i = c.self.inside in
    let same = length-names i.links.items in
    let e = ap (λ (n : Names). length n.names) c.self.view_is in
    let within : c.args.gone < length i.links.items = omega (arith, c.requires.within) in
    let own_kept : get_or (names_of i.links.items) c.args.kept 0 ≡ c.args.kept = ap (λ (n : Names). get_or n.names c.args.kept 0) c.self.view_is ∙ c.requires.kept in
    let own_gone : get_or (names_of i.links.items) c.args.gone 0 ≡ c.args.gone = ap (λ (n : Names). get_or n.names c.args.gone 0) c.self.view_is ∙ c.requires.gone in
    let left : c.root-left.result ≡ root_of i.links.items c.args.kept = rw c.as_slice.ensures.value at c.root-left.ensures.root in
    let right : c.root-right.result ≡ root_of i.links.items c.args.gone = rw c.as_slice-2.ensures.value at c.root-right.ensures.root in
    tops_differ i.links.items i.spare i.links.cap c.self.invariant c.args.kept c.args.gone c.requires.less within own_kept own_gone (sym left ∙ sym h ∙ right)

pub invariant_of-self : goal.invariant_of-self
invariant_of-self c =
    let i = c.self.inside in
    let same = length-names i.links.items in
    let e = ap (λ (n : Names). length n.names) c.self.view_is in
    let within : c.args.gone < length i.links.items = omega (arith, c.requires.within) in
    let own_kept : get_or (names_of i.links.items) c.args.kept 0 ≡ c.args.kept = ap (λ (n : Names). get_or n.names c.args.kept 0) c.self.view_is ∙ c.requires.kept in
    let own_gone : get_or (names_of i.links.items) c.args.gone 0 ≡ c.args.gone = ap (λ (n : Names). get_or n.names c.args.gone 0) c.self.view_is ∙ c.requires.gone in
    let left : c.root-left.result ≡ root_of i.links.items c.args.kept = rw c.as_slice.ensures.value at c.root-left.ensures.root in
    let right : c.root-right.result ≡ root_of i.links.items c.args.gone = rw c.as_slice-2.ensures.value at c.root-right.ensures.root in
    let made : c.put_under.new.links ≡ linked i.links.items (root_of i.links.items c.args.kept) (root_of i.links.items c.args.gone) c.args.kept = rw (c.as_mut_slice.ensures.value, left, right) at c.put_under.ensures in
    let long : length c.put_under.new.links ≡ i.links.len = omega (arith, c.put_under.auto.links, c.as_mut_slice.ensures.len, i.links.ok) in
    let whole : take i.links.len (c.put_under.new.links ++ drop (length c.put_under.new.links) i.links.items) ≡ linked i.links.items (root_of i.links.items c.args.kept) (root_of i.links.items c.args.gone) c.args.kept = take_at c.put_under.new.links (drop (length c.put_under.new.links) i.links.items) i.links.len long ∙ made in
    let room = HasRoom-under_gone i.links.items i.spare i.links.cap c.self.invariant c.args.kept c.args.gone c.requires.less within own_kept own_gone in
    let P : List Link → Type 0 = λ ls. HasRoom ls i.spare i.links.cap in
    subst P (sym whole) (room i.links.cap (omega arith))

pub returns-then-index-clause-names : goal.returns-then-index-clause-names
returns-then-index-clause-names c =
    let i = c.self.inside in
    let same = length-names i.links.items in
    let e = ap (λ (n : Names). length n.names) c.self.view_is in
    let within : c.args.gone < length i.links.items = omega (arith, c.requires.within) in
    let own_kept : get_or (names_of i.links.items) c.args.kept 0 ≡ c.args.kept = ap (λ (n : Names). get_or n.names c.args.kept 0) c.self.view_is ∙ c.requires.kept in
    let own_gone : get_or (names_of i.links.items) c.args.gone 0 ≡ c.args.gone = ap (λ (n : Names). get_or n.names c.args.gone 0) c.self.view_is ∙ c.requires.gone in
    let left : c.root-left.result ≡ root_of i.links.items c.args.kept = rw c.as_slice.ensures.value at c.root-left.ensures.root in
    let right : c.root-right.result ≡ root_of i.links.items c.args.gone = rw c.as_slice-2.ensures.value at c.root-right.ensures.root in
    let made : c.put_under.new.links ≡ linked i.links.items (root_of i.links.items c.args.kept) (root_of i.links.items c.args.gone) c.args.kept = rw (c.as_mut_slice.ensures.value, left, right) at c.put_under.ensures in
    let long : length c.put_under.new.links ≡ i.links.len = omega (arith, c.put_under.auto.links, c.as_mut_slice.ensures.len, i.links.ok) in
    let whole : take i.links.len (c.put_under.new.links ++ drop (length c.put_under.new.links) i.links.items) ≡ linked i.links.items (root_of i.links.items c.args.kept) (root_of i.links.items c.args.gone) c.args.kept = take_at c.put_under.new.links (drop (length c.put_under.new.links) i.links.items) i.links.len long ∙ made in
    ap names_of whole ∙ names-under_gone i.links.items i.spare i.links.cap c.self.invariant c.args.kept c.args.gone c.requires.less within own_kept own_gone ∙ ap (λ (n : Names). map (renamed c.args.kept c.args.gone) n.names) c.self.view_is

pub invariant_of-self-else-index : goal.invariant_of-self-else-index
invariant_of-self-else-index c =
    let i = c.self.inside in
    let same = length-names i.links.items in
    let e = ap (λ (n : Names). length n.names) c.self.view_is in
    let within : c.args.gone < length i.links.items = omega (arith, c.requires.within) in
    let own_kept : get_or (names_of i.links.items) c.args.kept 0 ≡ c.args.kept = ap (λ (n : Names). get_or n.names c.args.kept 0) c.self.view_is ∙ c.requires.kept in
    let own_gone : get_or (names_of i.links.items) c.args.gone 0 ≡ c.args.gone = ap (λ (n : Names). get_or n.names c.args.gone 0) c.self.view_is ∙ c.requires.gone in
    let left : c.root-left.result ≡ root_of i.links.items c.args.kept = rw c.as_slice.ensures.value at c.root-left.ensures.root in
    let right : c.root-right.result ≡ root_of i.links.items c.args.gone = rw c.as_slice-2.ensures.value at c.root-right.ensures.root in
    let made : c.put_under-else-index.new.links ≡ linked i.links.items (root_of i.links.items c.args.gone) (root_of i.links.items c.args.kept) c.args.kept = rw (c.as_mut_slice-else-index.ensures.value, left, right) at c.put_under-else-index.ensures in
    let long : length c.put_under-else-index.new.links ≡ i.links.len = omega (arith, c.put_under-else-index.auto.links, c.as_mut_slice-else-index.ensures.len, i.links.ok) in
    let whole : take i.links.len (c.put_under-else-index.new.links ++ drop (length c.put_under-else-index.new.links) i.links.items) ≡ linked i.links.items (root_of i.links.items c.args.gone) (root_of i.links.items c.args.kept) c.args.kept = take_at c.put_under-else-index.new.links (drop (length c.put_under-else-index.new.links) i.links.items) i.links.len long ∙ made in
    let room = HasRoom-under_kept i.links.items i.spare i.links.cap c.self.invariant c.args.kept c.args.gone c.requires.less within own_kept own_gone in
    let P : List Link → Type 0 = λ ls. HasRoom ls i.spare i.links.cap in
    subst P (sym whole) (room i.links.cap (omega arith))

pub returns-else-index-clause-names : goal.returns-else-index-clause-names
returns-else-index-clause-names c =
    let i = c.self.inside in
    let same = length-names i.links.items in
    let e = ap (λ (n : Names). length n.names) c.self.view_is in
    let within : c.args.gone < length i.links.items = omega (arith, c.requires.within) in
    let own_kept : get_or (names_of i.links.items) c.args.kept 0 ≡ c.args.kept = ap (λ (n : Names). get_or n.names c.args.kept 0) c.self.view_is ∙ c.requires.kept in
    let own_gone : get_or (names_of i.links.items) c.args.gone 0 ≡ c.args.gone = ap (λ (n : Names). get_or n.names c.args.gone 0) c.self.view_is ∙ c.requires.gone in
    let left : c.root-left.result ≡ root_of i.links.items c.args.kept = rw c.as_slice.ensures.value at c.root-left.ensures.root in
    let right : c.root-right.result ≡ root_of i.links.items c.args.gone = rw c.as_slice-2.ensures.value at c.root-right.ensures.root in
    let made : c.put_under-else-index.new.links ≡ linked i.links.items (root_of i.links.items c.args.gone) (root_of i.links.items c.args.kept) c.args.kept = rw (c.as_mut_slice-else-index.ensures.value, left, right) at c.put_under-else-index.ensures in
    let long : length c.put_under-else-index.new.links ≡ i.links.len = omega (arith, c.put_under-else-index.auto.links, c.as_mut_slice-else-index.ensures.len, i.links.ok) in
    let whole : take i.links.len (c.put_under-else-index.new.links ++ drop (length c.put_under-else-index.new.links) i.links.items) ≡ linked i.links.items (root_of i.links.items c.args.gone) (root_of i.links.items c.args.kept) c.args.kept = take_at c.put_under-else-index.new.links (drop (length c.put_under-else-index.new.links) i.links.items) i.links.len long ∙ made in
    ap names_of whole ∙ names-under_kept i.links.items i.spare i.links.cap c.self.invariant c.args.kept c.args.gone c.requires.less within own_kept own_gone ∙ ap (λ (n : Names). map (renamed c.args.kept c.args.gone) n.names) c.self.view_is
