-- The outer loop's invariant: none of the names so far agrees. The inner loop's: the letters so far agree.
use Rattle.special_properties.proofs.Search.{Agree, Passed}
use Rattle.special_properties.proofs.number_of.Given as goal

abbrev pub invariant-loop-k : goal.invariant-loop-k
invariant-loop-k l = Agree l.letters l.property.now l.k

abbrev pub invariant-names : goal.invariant-names
invariant-names l = Passed l.property-items l.letters l.i
