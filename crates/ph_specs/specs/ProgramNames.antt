-- The names of the program that contracts cite, passed on from one place.
pub use Rattle.ph_specs.specs.Lines.{is_blank, is_file_name, is_name, is_name_byte, is_printed, number, words}
pub use Rattle.ph_specs.specs.Reply.{Reply, line_of, reply_text, row_words, stats_words}
pub use Rattle.ph_specs.specs.Command.{Command, Reading, fixed_fits, form, forms, is_number_below, name_fits, number_fits, read_form, read_words}
pub use Rattle.ph_specs.specs.Named.{enter, has_name, lookup}
pub use Rattle.ph_specs.specs.Csv.{csv_line, csv_rows, csv_text, is_boxes, read_record, read_records, records}
pub use Rattle.ph_specs.specs.State.{Engine, Slot, current, new_engine, new_slot, slot_at}
pub use Rattle.ph_specs.specs.Refusals.{has_too_many_cursors, has_wrong_dims, has_wrong_kind, join_refusal, lacks_cursor, most_dims, points_differ}
pub use Rattle.ph_specs.specs.Engine.{opened_dims, page_end}
pub use Rattle.ph_specs.specs.Generator.{command_of_draws, draw_of, generate, generate_from, next_state, small_coordinate}
pub use Rattle.ph_specs.specs.Program.{Task, checked_words, number_of_word, opened, own_fault, task, words_of_snapshot}
