use Rattle.heap.specs.Runs.{allocated, freed, filled, eased, spanned, offered, found, got}
use Rattle.heap.proofs.calls.make.Goals as goal

pub returns-in-Allocate-clause-answered : goal.returns-in-Allocate-clause-answered
returns-in-Allocate-clause-answered g c = rw c.in-Allocate.is (allocated c.allocate.ensures.answer c.allocate.ensures.after)

pub returns-in-Free-clause-answered : goal.returns-in-Free-clause-answered
returns-in-Free-clause-answered g c = rw c.in-Free.is (freed c.free.ensures.answer c.free.ensures.after)

pub returns-in-Fill-clause-answered : goal.returns-in-Fill-clause-answered
returns-in-Fill-clause-answered g c = rw c.in-Fill.is (filled c.fill.ensures.answer c.fill.ensures.after)

pub returns-in-Relief-clause-answered : goal.returns-in-Relief-clause-answered
returns-in-Relief-clause-answered g c = rw c.in-Relief.is (eased c.relief.ensures.after)

pub returns-in-Span-clause-answered : goal.returns-in-Span-clause-answered
returns-in-Span-clause-answered g c = rw c.in-Span.is (spanned c.span.ensures)

pub returns-in-Offer-clause-answered : goal.returns-in-Offer-clause-answered
returns-in-Offer-clause-answered g c = rw c.in-Offer.is (offered c.offer.ensures)

pub returns-in-Find-clause-answered : goal.returns-in-Find-clause-answered
returns-in-Find-clause-answered g c = rw c.in-Find.is (found c.find.ensures)

pub returns-in-Get-clause-answered : goal.returns-in-Get-clause-answered
returns-in-Get-clause-answered g c = rw c.in-Get.is (got c.get.ensures)
