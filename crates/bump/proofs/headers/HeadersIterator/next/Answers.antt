use Rattle.std.proofs.Common.{List, length, ap, rules}
use Rattle.bump.specs.Table.{Header, placed}
use Rattle.bump.specs.Walks.{walk_end}
use Rattle.bump.specs.Headers.{number, left}
use Rattle.bump.proofs.Readings.{read_on}
use Rattle.bump.proofs.headers.HeadersIterator.next.Goals as goal

pub returns-in_err-header-clause-steps : goal.returns-in_err-header-clause-steps
unfolding left
returns-in_err-header-clause-steps c =
    let s = c.args.self.now in
    let none = ap (λ (cs : List Header). placed cs s.at) (walk_end s.region.now s.bound s.at c.in_err-header.ensures) in
    rw c.from_residual.ensures (none, none)

pub returns-clause-steps : goal.returns-clause-steps
unfolding left
returns-clause-steps c =
    let s = c.args.self.now in
    let h = c.in_ok-header.header in
    let e = c.in_ok-header.ensures in
    read_on s.region.now s.bound s.at h.start h.length (number h.state) c.end-self.result e.0 c.end-self.ensures e.1

pub returns-clause-goes : goal.returns-clause-goes
unfolding left
returns-clause-goes c =
    let s = c.args.self.now in
    let h = c.in_ok-header.header in
    let e = c.in_ok-header.ensures in
    let shorter = ap length (read_on s.region.now s.bound s.at h.start h.length (number h.state) c.end-self.result e.0 c.end-self.ensures e.1) in
    search rules
