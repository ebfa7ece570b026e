use Rattle.std.proofs.Common.{◌≡◌, ◌<◌, ◌∙◌, ap, sym, length, arith, get_or}
use Rattle.std.proofs.lemmas.List.{get_or_read}
use Rattle.r4_atoms.specs.declared.forest.Link.{Link}
use Rattle.r4_atoms.specs.Names.{Names}
use Rattle.r4_atoms.specs.Forest.{no_link, root_of}
use Rattle.r4_atoms.proofs.ForestLaws.{length-names, name_seen}
use Rattle.r4_atoms.proofs.forest.Forest.name.Goals as goal

pub root-root-requires-clause-within : goal.root-root-requires-clause-within
root-root-requires-clause-within c =
    let same = length-names c.self.inside.links.items in
    let e = ap (λ (n : Names). length n.names) c.self.view_is in
    rw c.as_slice.ensures.value (omega arith)

pub returns : goal.returns
returns c =
    let ls = c.self.inside.links.items in
    let same = length-names ls in
    let e = ap (λ (n : Names). length n.names) c.self.view_is in
    let within : c.args.at < length ls = omega arith in
    let root : c.root-root.result ≡ root_of ls c.args.at = rw c.as_slice.ensures.value at c.root-root.ensures.root in
    let inside : c.root-root.result < length ls = rw c.as_slice.ensures.value at c.root-root.ensures.top.within in
    let read = get_or_read ls c.root-root.result c.index.result.now inside c.index.ensures no_link in
    ap (λ (l : Link). l.name) read ∙ rw root (sym (name_seen ls c.args.at within)) ∙ ap (λ (n : Names). get_or n.names c.args.at 0) c.self.view_is
