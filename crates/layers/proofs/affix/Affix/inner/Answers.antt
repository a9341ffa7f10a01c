use Rattle.std.proofs.Common.{arith}
use Rattle.layers.specs.Affixed.{between}
use Rattle.layers.proofs.affix.Affix.inner.Goals as goal

pub returns-in_default : goal.returns-in_default
returns-in_default g c b i =
    let f = c.in-Some.ensures in
    let k = between (g.H.Meant.means c.args.self.now.below) (g.H.Meant.lawful c.args.self.now.below) c.args.a c.in-Some.start c.in-Some.length b f.0 f.1 i in
    let t = k.to in
    omega arith

pub returns-in_default-2 : goal.returns-in_default-2
returns-in_default-2 g c b i =
    let f = c.in-Some.ensures in
    let k = between (g.H.Meant.means c.args.self.now.below) (g.H.Meant.lawful c.args.self.now.below) c.args.a c.in-Some.start c.in-Some.length b f.0 f.1 i in
    let t = k.from in
    omega arith

pub returns-in_default-3 : goal.returns-in_default-3
returns-in_default-3 g c b i =
    let f = c.in-Some.ensures in
    let k = between (g.H.Meant.means c.args.self.now.below) (g.H.Meant.lawful c.args.self.now.below) c.args.a c.in-Some.start c.in-Some.length b f.0 f.1 i in
    let t = k.long in
    omega arith
