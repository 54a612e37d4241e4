-- The names of packed records and snapshots that contracts cite, passed on from one place.
pub use Rattle.ph_specs.specs.Digits.{Field, bytes_of, digits_of, field, number_after, number_of, pieces, word_bytes, words_for, words_of}
pub use Rattle.ph_specs.specs.Pack.{at_address, bodies, body_fields, children, cube_digits, first_word, is_cube, layout, linear_digits, pack, place_body, place_kind}
pub use Rattle.ph_specs.specs.Pack.{places, record_in, record_of, table, values}
pub use Rattle.ph_specs.specs.Record.{Read, absent_are_zero, entries_in, first_in, first_of, has_cube, padding, record_words, rises_from, table_digits, table_number}
pub use Rattle.ph_specs.specs.Record.{tables_of, unpacked, values_in}
pub use Rattle.ph_specs.specs.Stats.{stats}
pub use Rattle.ph_specs.specs.Snapshot.{kind_byte, magic, snap}
pub use Rattle.ph_specs.specs.Load.{body_fault, box_fits, boxes_fit, dims_fit, first_fits, has_magic, has_zeros_from, is_flag, is_width, known, least_entries}
pub use Rattle.ph_specs.specs.Load.{level_fits, load_fault, next_first, next_record, places_under, record_fault, rest_fits, words_in}
pub use Rattle.ph_specs.specs.SnapshotOf.{IsSnapshotOf}
pub use Rattle.ph_specs.specs.SavedTable.{first_node, read_nodes, read_snapshot}
