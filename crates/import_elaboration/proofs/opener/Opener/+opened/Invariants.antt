use Rattle.import_elaboration.proofs.opener.Opener.+opened.Given as goal

abbrev pub decreases-value : goal.decreases-value
decreases-value l = l.depth

abbrev pub decreases-other_value : goal.decreases-other_value
decreases-other_value l = l.depth

abbrev pub decreases-selected : goal.decreases-selected
decreases-selected l = l.depth

abbrev pub decreases-values : goal.decreases-values
decreases-values l = l.depth

abbrev pub decreases-constant : goal.decreases-constant
decreases-constant l = l.depth

abbrev pub decreases-named : goal.decreases-named
decreases-named l = l.depth

abbrev pub decreases-actual_value : goal.decreases-actual_value
decreases-actual_value l = l.depth

abbrev pub decreases-declared_value : goal.decreases-declared_value
decreases-declared_value l = l.depth

abbrev pub decreases-constant_of : goal.decreases-constant_of
decreases-constant_of l = l.depth

abbrev pub decreases-member : goal.decreases-member
decreases-member l = l.depth

abbrev pub decreases-constant_value : goal.decreases-constant_value
decreases-constant_value l = l.depth

abbrev pub decreases-constant_type : goal.decreases-constant_type
decreases-constant_type l = l.depth

abbrev pub decreases-base : goal.decreases-base
decreases-base l = l.depth

abbrev pub decreases-boolean : goal.decreases-boolean
decreases-boolean l = l.depth

abbrev pub decreases-boolean_value : goal.decreases-boolean_value
decreases-boolean_value l = l.depth

abbrev pub decreases-instance : goal.decreases-instance
decreases-instance l = l.depth

abbrev pub decreases-body : goal.decreases-body
decreases-body l = l.depth

abbrev pub decreases-count : goal.decreases-count
decreases-count l = l.depth

abbrev pub decreases-sequence : goal.decreases-sequence
decreases-sequence l = l.depth

abbrev pub decreases-part : goal.decreases-part
decreases-part l = l.depth

abbrev pub decreases-joined_part : goal.decreases-joined_part
decreases-joined_part l = l.depth

abbrev pub decreases-either_part : goal.decreases-either_part
decreases-either_part l = l.depth

abbrev pub decreases-property : goal.decreases-property
decreases-property l = l.depth

abbrev pub decreases-two_sided : goal.decreases-two_sided
decreases-two_sided l = l.depth

abbrev pub decreases-next_count : goal.decreases-next_count
decreases-next_count l = l.depth

abbrev pub decreases-bounds : goal.decreases-bounds
decreases-bounds l = l.depth

abbrev pub decreases-choices : goal.decreases-choices
decreases-choices l = l.depth

abbrev pub decreases-assignments : goal.decreases-assignments
decreases-assignments l = l.depth

abbrev pub decreases-range : goal.decreases-range
decreases-range l = l.depth

abbrev pub decreases-ranged_type : goal.decreases-ranged_type
decreases-ranged_type l = l.depth

abbrev pub decreases-vector_type : goal.decreases-vector_type
decreases-vector_type l = l.depth

abbrev pub decreases-data_type : goal.decreases-data_type
decreases-data_type l = l.depth

abbrev pub decreases-converted : goal.decreases-converted
decreases-converted l = l.depth

abbrev pub decreases-held : goal.decreases-held
decreases-held l = l.depth

abbrev pub decreases-variable : goal.decreases-variable
decreases-variable l = l.depth

abbrev pub decreases-shape : goal.decreases-shape
decreases-shape l = l.depth

abbrev pub decreases-whole_shape : goal.decreases-whole_shape
decreases-whole_shape l = l.depth

abbrev pub decreases-lone_value : goal.decreases-lone_value
decreases-lone_value l = l.depth

abbrev pub decreases-lone_values : goal.decreases-lone_values
decreases-lone_values l = l.depth

abbrev pub decreases-delay : goal.decreases-delay
decreases-delay l = l.depth
