-- The syntax tables of SCTE 35 2023r1, in its order and under its names. Rules marked (house) are paper 01's, and so are the
-- bits called reserved: sap_type and event_id_compliance_flag are reserved in the base edition.
-- After `branch` stand the test, what comes if it holds, what comes if not, and what comes after either; every other step ends
-- in what comes after it, and `done` is nothing more.
-- Assumes nothing.
use Rattle.std.specs.Prelude.{ℕ, List, [], ◌∷◌}
use Prim.Native.String.{String}
use Rattle.grammar.specs.Syntax.{Item, Prog, field, reserved, is, among, more, done, stop, fields, branch, call, repeat, frame, fill, under}

-- bytes up to the end of the part, under one name
abbrev pub bytes : String → Prog
bytes n = fill (fields (field 8 n ∷ []) done) done

-- ---- times

-- Table 14
unfoldable pub splice_time : Prog
splice_time =
    fields (field 1 "time_specified_flag" ∷ [])
    (branch (is "time_specified_flag" 1)
    (fields (reserved 6 ∷ field 33 "pts_time" ∷ []) done)  -- if so
    (fields (reserved 7 ∷ []) done)  -- if not
    done)

-- Table 15
unfoldable pub break_duration : Prog
break_duration = fields (field 1 "auto_return" ∷ reserved 6 ∷ field 33 "duration" ∷ []) done

-- ---- commands

-- Tables 9 and 10, the end of an event
unfoldable pub avail_numbers : Prog
avail_numbers = fields (field 16 "unique_program_id" ∷ field 8 "avail_num" ∷ field 8 "avails_expected" ∷ []) done

-- the same, after break_duration() where there is one
unfoldable pub avails : Prog
avails = branch (is "duration_flag" 1) break_duration done avail_numbers

-- Table 9, when an event takes place
unfoldable pub schedule_times : Prog
schedule_times =
    branch (is "program_splice_flag" 1)
    (fields (field 32 "utc_splice_time" ∷ []) done)  -- if so
    (fields (field 8 "component_count" ∷ [])  -- if not
    (repeat "component_count" (fields (field 8 "component_tag" ∷ field 32 "utc_splice_time" ∷ []) done)
    done))
    done

-- Table 9, an event
unfoldable pub schedule_event : Prog
schedule_event =
    fields (field 32 "splice_event_id" ∷ field 1 "splice_event_cancel_indicator" ∷ reserved 7 ∷ [])
    (branch (is "splice_event_cancel_indicator" 0)
    (fields (field 1 "out_of_network_indicator" ∷ field 1 "program_splice_flag" ∷ field 1 "duration_flag" ∷ reserved 5 ∷ [])  -- if so
    (call schedule_times
    (call avails
    done)))
    done  -- if not
    done)

-- Table 9
unfoldable pub splice_schedule : Prog
splice_schedule = fields (field 8 "splice_count" ∷ []) (repeat "splice_count" schedule_event done)

-- Table 10, a component
unfoldable pub insert_component : Prog
insert_component =
    fields (field 8 "component_tag" ∷ [])
    (branch (is "splice_immediate_flag" 0) splice_time done
    done)

-- Table 10, when the splice takes place; 01 has the splice_time() that 002's print lost
unfoldable pub insert_times : Prog
insert_times =
    branch (is "program_splice_flag" 1)
    (branch (is "splice_immediate_flag" 0) splice_time done done)  -- if so
    (fields (field 8 "component_count" ∷ []) (repeat "component_count" insert_component done))  -- if not
    done

-- Table 10
unfoldable pub splice_insert : Prog
splice_insert =
    fields (field 32 "splice_event_id" ∷ field 1 "splice_event_cancel_indicator" ∷ reserved 7 ∷ [])
    (branch (is "splice_event_cancel_indicator" 0)
    (fields  -- if so
    (field 1 "out_of_network_indicator" ∷ field 1 "program_splice_flag" ∷ field 1 "duration_flag"
    ∷ field 1 "splice_immediate_flag" ∷ reserved 4 ∷ [])
    (call insert_times
    (call avails
    done)))
    done  -- if not
    done)

-- Table 13
unfoldable pub private_command : Prog
private_command = fields (field 32 "identifier" ∷ []) (bytes "private_byte")

-- Table 7, the command types that the standard has
abbrev pub command_types : List ℕ
command_types = 0x00 ∷ 0x04 ∷ 0x05 ∷ 0x06 ∷ 0x07 ∷ 0xFF ∷ []

-- Tables 8 to 12, by splice_command_type (Table 7); `otherwise` for the types whose end only splice_command_length gives
unfoldable pub command : Prog → Prog → Prog
command private_one otherwise =
    branch (is "splice_command_type" 0x00) done
    (branch (is "splice_command_type" 0x04) splice_schedule
    (branch (is "splice_command_type" 0x05) splice_insert
    (branch (is "splice_command_type" 0x06) splice_time
    (branch (is "splice_command_type" 0x07) done
    (branch (is "splice_command_type" 0xFF) private_one otherwise
    done) done) done) done) done) done

-- the command within splice_command_length, used up exactly; 0xFFF leaves the end to the grammar, where it can find one
unfoldable pub sized_command : Prog
sized_command =
    branch (is "splice_command_length" 0xFFF)
    (command stop stop)  -- if so
    (frame "splice_command_length" (command private_command (bytes "command_byte")) done)  -- if not
    done

-- ---- descriptors

-- Table 18, after the identifier
unfoldable pub avail_descriptor : Prog
avail_descriptor = fields (field 32 "provider_avail_id" ∷ []) done

-- Table 19, after the identifier
unfoldable pub dtmf_descriptor : Prog
dtmf_descriptor =
    fields (field 8 "preroll" ∷ field 3 "dtmf_count" ∷ reserved 5 ∷ [])
    (repeat "dtmf_count" (fields (field 8 "DTMF_char" ∷ []) done)
    done)

-- Table 20, the restrictions
unfoldable pub delivery : Prog
delivery =
    branch (is "delivery_not_restricted_flag" 0)
    (fields  -- if so
    (field 1 "web_delivery_allowed_flag" ∷ field 1 "no_regional_blackout_flag" ∷ field 1 "archive_allowed_flag"
    ∷ field 2 "device_restrictions" ∷ [])
    done)
    (fields (reserved 5 ∷ []) done)  -- if not
    done

-- Table 20, the components
unfoldable pub segmentation_components : Prog
segmentation_components =
    branch (is "program_segmentation_flag" 0)
    (fields (field 8 "component_count" ∷ [])  -- if so
    (repeat "component_count" (fields (field 8 "component_tag" ∷ reserved 7 ∷ field 33 "pts_offset" ∷ []) done)
    done))
    done  -- if not
    done

-- Table 20, the types that may carry sub-segments
abbrev pub sub_segmented : List ℕ
sub_segmented = 0x34 ∷ 0x30 ∷ 0x32 ∷ 0x36 ∷ 0x38 ∷ 0x3A ∷ 0x44 ∷ 0x46 ∷ []

-- Table 20, from the UPID on; the two bytes at its end may be left out (house)
unfoldable pub segmentation_end : Prog
segmentation_end =
    fields (field 8 "segmentation_upid_type" ∷ field 8 "segmentation_upid_length" ∷ [])
    (repeat "segmentation_upid_length" (fields (field 8 "segmentation_upid" ∷ []) done)
    (fields (field 8 "segmentation_type_id" ∷ field 8 "segment_num" ∷ field 8 "segments_expected" ∷ [])
    (branch (among "segmentation_type_id" sub_segmented)
    (branch more (fields (field 8 "sub_segment_num" ∷ field 8 "sub_segments_expected" ∷ []) done) done done)  -- if so
    done  -- if not
    done)))

-- Table 20, after the identifier
unfoldable pub segmentation_descriptor : Prog
segmentation_descriptor =
    fields (field 32 "segmentation_event_id" ∷ field 1 "segmentation_event_cancel_indicator" ∷ reserved 7 ∷ [])
    (branch (is "segmentation_event_cancel_indicator" 0)
    (fields (field 1 "program_segmentation_flag" ∷ field 1 "segmentation_duration_flag" ∷ field 1 "delivery_not_restricted_flag" ∷ [])  -- if so
    (call delivery
    (call segmentation_components
    (branch (is "segmentation_duration_flag" 1) (fields (field 40 "segmentation_duration" ∷ []) done) done
    (call segmentation_end
    done)))))
    done  -- if not
    done)

-- Table 27, after the identifier
unfoldable pub time_descriptor : Prog
time_descriptor = fields (field 48 "TAI_seconds" ∷ field 32 "TAI_ns" ∷ field 16 "UTC_offset" ∷ []) done

-- Table 28, after the identifier
unfoldable pub audio_descriptor : Prog
audio_descriptor =
    fields (field 4 "audio_count" ∷ reserved 4 ∷ [])
    (repeat "audio_count"
    (fields
    (field 8 "component_tag" ∷ field 24 "ISO_code" ∷ field 3 "Bit_Stream_Mode" ∷ field 4 "Num_Channels"
    ∷ field 1 "Full_Srvc_Audio" ∷ [])
    done)
    done)

-- Table 16: the descriptors under the identifier "CUEI", by tag
unfoldable pub known_descriptor : Prog → Prog
known_descriptor unknown =
    branch (is "splice_descriptor_tag" 0x00) avail_descriptor
    (branch (is "splice_descriptor_tag" 0x01) dtmf_descriptor
    (branch (is "splice_descriptor_tag" 0x02) segmentation_descriptor
    (branch (is "splice_descriptor_tag" 0x03) time_descriptor
    (branch (is "splice_descriptor_tag" 0x04) audio_descriptor unknown
    done) done) done) done) done

-- Table 17
unfoldable pub splice_descriptor : Prog
splice_descriptor =
    fields (field 8 "splice_descriptor_tag" ∷ field 8 "descriptor_length" ∷ [])
    (frame "descriptor_length"
    (fields (field 32 "identifier" ∷ [])
    (branch (is "identifier" 0x43554549) (known_descriptor (bytes "private_byte")) (bytes "private_byte")
    done))
    done)

-- ---- the section

-- Table 5, up to splice_command_length
abbrev pub header : List Item
header =
    field 8 "table_id" ∷ field 1 "section_syntax_indicator" ∷ field 1 "private_indicator" ∷ reserved 2
    ∷ field 12 "section_length" ∷ field 8 "protocol_version" ∷ field 1 "encrypted_packet" ∷ field 6 "encryption_algorithm"
    ∷ field 33 "pts_adjustment" ∷ field 8 "cw_index" ∷ field 12 "tier" ∷ field 12 "splice_command_length" ∷ []

-- Table 5, the loop: one that does not fit is row 9, before any descriptor in it can be row 10
unfoldable pub descriptor_loop : Prog
descriptor_loop =
    fields (field 16 "descriptor_loop_length" ∷ [])
    (frame "descriptor_loop_length" (under 10 (fill splice_descriptor done) done)
    done)

-- Table 5, from splice_command_type on, up to CRC_32
unfoldable pub payload : Prog
payload =
    fields (field 8 "splice_command_type" ∷ [])
    (under 8 sized_command
    (under 9 descriptor_loop
    (bytes "alignment_stuffing")))

-- Table 5, up to CRC_32; what is encrypted is kept as bytes
unfoldable pub splice_info_section : Prog
splice_info_section = fields header (branch (is "encrypted_packet" 1) (bytes "sealed_byte") payload done)
