use Rattle.lexre.proofs.PatternsComputed as Computed
use Rattle.lexre.proofs.laws.examples_of_patterns.Goals as goal

pub returns-clause-items : goal.returns-clause-items
returns-clause-items c = Computed.items

pub returns-clause-folded : goal.returns-clause-folded
returns-clause-folded c = Computed.folded

pub returns-clause-joined : goal.returns-clause-joined
returns-clause-joined c = Computed.joined

pub returns-clause-operators : goal.returns-clause-operators
returns-clause-operators c = Computed.operators

pub returns-clause-over_items : goal.returns-clause-over_items
returns-clause-over_items c = Computed.over_items

pub returns-clause-over_series : goal.returns-clause-over_series
returns-clause-over_series c = Computed.over_series_too

pub returns-clause-named : goal.returns-clause-named
returns-clause-named c = Computed.named

pub returns-clause-bounds : goal.returns-clause-bounds
returns-clause-bounds c = Computed.bounds

pub returns-clause-refused : goal.returns-clause-refused
returns-clause-refused c = Computed.refused

pub returns-clause-classes : goal.returns-clause-classes
returns-clause-classes c = Computed.classes

pub returns-clause-escapes : goal.returns-clause-escapes
returns-clause-escapes c = Computed.escapes

pub returns-clause-refused_items : goal.returns-clause-refused_items
returns-clause-refused_items c = Computed.refused_items

pub returns-clause-class_names : goal.returns-clause-class_names
returns-clause-class_names c = Computed.class_names
