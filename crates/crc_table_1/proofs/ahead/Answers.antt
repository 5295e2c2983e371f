-- Made by tools/crc_tables. `crc_table_1::ahead` meets its contract: each arm has the number that the definition computes to at
-- its key. Assumes nothing.
use Rattle.std.proofs.Common.{◌/◌, ◌%◌, ◌^◌, arith}
use Rattle.crc_steps.specs.Steps.{step, zeros, ahead}
use Rattle.crc_steps.proofs.Arms.{arm}
use Rattle.crc_table_1.proofs.ahead.Goals as goal

pub returns-in-256 : goal.returns-in-256
unfolding ahead zeros step
returns-in-256 c = arm 8 0 _ c.in-256.is

pub returns-in-257 : goal.returns-in-257
unfolding ahead zeros step
returns-in-257 c = arm 8 1 _ c.in-257.is

pub returns-in-258 : goal.returns-in-258
unfolding ahead zeros step
returns-in-258 c = arm 8 2 _ c.in-258.is

pub returns-in-259 : goal.returns-in-259
unfolding ahead zeros step
returns-in-259 c = arm 8 3 _ c.in-259.is

pub returns-in-260 : goal.returns-in-260
unfolding ahead zeros step
returns-in-260 c = arm 8 4 _ c.in-260.is

pub returns-in-261 : goal.returns-in-261
unfolding ahead zeros step
returns-in-261 c = arm 8 5 _ c.in-261.is

pub returns-in-262 : goal.returns-in-262
unfolding ahead zeros step
returns-in-262 c = arm 8 6 _ c.in-262.is

pub returns-in-263 : goal.returns-in-263
unfolding ahead zeros step
returns-in-263 c = arm 8 7 _ c.in-263.is

pub returns-in-264 : goal.returns-in-264
unfolding ahead zeros step
returns-in-264 c = arm 8 8 _ c.in-264.is

pub returns-in-265 : goal.returns-in-265
unfolding ahead zeros step
returns-in-265 c = arm 8 9 _ c.in-265.is

pub returns-in-266 : goal.returns-in-266
unfolding ahead zeros step
returns-in-266 c = arm 8 10 _ c.in-266.is

pub returns-in-267 : goal.returns-in-267
unfolding ahead zeros step
returns-in-267 c = arm 8 11 _ c.in-267.is

pub returns-in-268 : goal.returns-in-268
unfolding ahead zeros step
returns-in-268 c = arm 8 12 _ c.in-268.is

pub returns-in-269 : goal.returns-in-269
unfolding ahead zeros step
returns-in-269 c = arm 8 13 _ c.in-269.is

pub returns-in-270 : goal.returns-in-270
unfolding ahead zeros step
returns-in-270 c = arm 8 14 _ c.in-270.is

pub returns-in-271 : goal.returns-in-271
unfolding ahead zeros step
returns-in-271 c = arm 8 15 _ c.in-271.is

pub returns-in-272 : goal.returns-in-272
unfolding ahead zeros step
returns-in-272 c = arm 8 16 _ c.in-272.is

pub returns-in-273 : goal.returns-in-273
unfolding ahead zeros step
returns-in-273 c = arm 8 17 _ c.in-273.is

pub returns-in-274 : goal.returns-in-274
unfolding ahead zeros step
returns-in-274 c = arm 8 18 _ c.in-274.is

pub returns-in-275 : goal.returns-in-275
unfolding ahead zeros step
returns-in-275 c = arm 8 19 _ c.in-275.is

pub returns-in-276 : goal.returns-in-276
unfolding ahead zeros step
returns-in-276 c = arm 8 20 _ c.in-276.is

pub returns-in-277 : goal.returns-in-277
unfolding ahead zeros step
returns-in-277 c = arm 8 21 _ c.in-277.is

pub returns-in-278 : goal.returns-in-278
unfolding ahead zeros step
returns-in-278 c = arm 8 22 _ c.in-278.is

pub returns-in-279 : goal.returns-in-279
unfolding ahead zeros step
returns-in-279 c = arm 8 23 _ c.in-279.is

pub returns-in-280 : goal.returns-in-280
unfolding ahead zeros step
returns-in-280 c = arm 8 24 _ c.in-280.is

pub returns-in-281 : goal.returns-in-281
unfolding ahead zeros step
returns-in-281 c = arm 8 25 _ c.in-281.is

pub returns-in-282 : goal.returns-in-282
unfolding ahead zeros step
returns-in-282 c = arm 8 26 _ c.in-282.is

pub returns-in-283 : goal.returns-in-283
unfolding ahead zeros step
returns-in-283 c = arm 8 27 _ c.in-283.is

pub returns-in-284 : goal.returns-in-284
unfolding ahead zeros step
returns-in-284 c = arm 8 28 _ c.in-284.is

pub returns-in-285 : goal.returns-in-285
unfolding ahead zeros step
returns-in-285 c = arm 8 29 _ c.in-285.is

pub returns-in-286 : goal.returns-in-286
unfolding ahead zeros step
returns-in-286 c = arm 8 30 _ c.in-286.is

pub returns-in-287 : goal.returns-in-287
unfolding ahead zeros step
returns-in-287 c = arm 8 31 _ c.in-287.is

pub returns-in-288 : goal.returns-in-288
unfolding ahead zeros step
returns-in-288 c = arm 8 32 _ c.in-288.is

pub returns-in-289 : goal.returns-in-289
unfolding ahead zeros step
returns-in-289 c = arm 8 33 _ c.in-289.is

pub returns-in-290 : goal.returns-in-290
unfolding ahead zeros step
returns-in-290 c = arm 8 34 _ c.in-290.is

pub returns-in-291 : goal.returns-in-291
unfolding ahead zeros step
returns-in-291 c = arm 8 35 _ c.in-291.is

pub returns-in-292 : goal.returns-in-292
unfolding ahead zeros step
returns-in-292 c = arm 8 36 _ c.in-292.is

pub returns-in-293 : goal.returns-in-293
unfolding ahead zeros step
returns-in-293 c = arm 8 37 _ c.in-293.is

pub returns-in-294 : goal.returns-in-294
unfolding ahead zeros step
returns-in-294 c = arm 8 38 _ c.in-294.is

pub returns-in-295 : goal.returns-in-295
unfolding ahead zeros step
returns-in-295 c = arm 8 39 _ c.in-295.is

pub returns-in-296 : goal.returns-in-296
unfolding ahead zeros step
returns-in-296 c = arm 8 40 _ c.in-296.is

pub returns-in-297 : goal.returns-in-297
unfolding ahead zeros step
returns-in-297 c = arm 8 41 _ c.in-297.is

pub returns-in-298 : goal.returns-in-298
unfolding ahead zeros step
returns-in-298 c = arm 8 42 _ c.in-298.is

pub returns-in-299 : goal.returns-in-299
unfolding ahead zeros step
returns-in-299 c = arm 8 43 _ c.in-299.is

pub returns-in-300 : goal.returns-in-300
unfolding ahead zeros step
returns-in-300 c = arm 8 44 _ c.in-300.is

pub returns-in-301 : goal.returns-in-301
unfolding ahead zeros step
returns-in-301 c = arm 8 45 _ c.in-301.is

pub returns-in-302 : goal.returns-in-302
unfolding ahead zeros step
returns-in-302 c = arm 8 46 _ c.in-302.is

pub returns-in-303 : goal.returns-in-303
unfolding ahead zeros step
returns-in-303 c = arm 8 47 _ c.in-303.is

pub returns-in-304 : goal.returns-in-304
unfolding ahead zeros step
returns-in-304 c = arm 8 48 _ c.in-304.is

pub returns-in-305 : goal.returns-in-305
unfolding ahead zeros step
returns-in-305 c = arm 8 49 _ c.in-305.is

pub returns-in-306 : goal.returns-in-306
unfolding ahead zeros step
returns-in-306 c = arm 8 50 _ c.in-306.is

pub returns-in-307 : goal.returns-in-307
unfolding ahead zeros step
returns-in-307 c = arm 8 51 _ c.in-307.is

pub returns-in-308 : goal.returns-in-308
unfolding ahead zeros step
returns-in-308 c = arm 8 52 _ c.in-308.is

pub returns-in-309 : goal.returns-in-309
unfolding ahead zeros step
returns-in-309 c = arm 8 53 _ c.in-309.is

pub returns-in-310 : goal.returns-in-310
unfolding ahead zeros step
returns-in-310 c = arm 8 54 _ c.in-310.is

pub returns-in-311 : goal.returns-in-311
unfolding ahead zeros step
returns-in-311 c = arm 8 55 _ c.in-311.is

pub returns-in-312 : goal.returns-in-312
unfolding ahead zeros step
returns-in-312 c = arm 8 56 _ c.in-312.is

pub returns-in-313 : goal.returns-in-313
unfolding ahead zeros step
returns-in-313 c = arm 8 57 _ c.in-313.is

pub returns-in-314 : goal.returns-in-314
unfolding ahead zeros step
returns-in-314 c = arm 8 58 _ c.in-314.is

pub returns-in-315 : goal.returns-in-315
unfolding ahead zeros step
returns-in-315 c = arm 8 59 _ c.in-315.is

pub returns-in-316 : goal.returns-in-316
unfolding ahead zeros step
returns-in-316 c = arm 8 60 _ c.in-316.is

pub returns-in-317 : goal.returns-in-317
unfolding ahead zeros step
returns-in-317 c = arm 8 61 _ c.in-317.is

pub returns-in-318 : goal.returns-in-318
unfolding ahead zeros step
returns-in-318 c = arm 8 62 _ c.in-318.is

pub returns-in-319 : goal.returns-in-319
unfolding ahead zeros step
returns-in-319 c = arm 8 63 _ c.in-319.is

pub returns-in-320 : goal.returns-in-320
unfolding ahead zeros step
returns-in-320 c = arm 8 64 _ c.in-320.is

pub returns-in-321 : goal.returns-in-321
unfolding ahead zeros step
returns-in-321 c = arm 8 65 _ c.in-321.is

pub returns-in-322 : goal.returns-in-322
unfolding ahead zeros step
returns-in-322 c = arm 8 66 _ c.in-322.is

pub returns-in-323 : goal.returns-in-323
unfolding ahead zeros step
returns-in-323 c = arm 8 67 _ c.in-323.is

pub returns-in-324 : goal.returns-in-324
unfolding ahead zeros step
returns-in-324 c = arm 8 68 _ c.in-324.is

pub returns-in-325 : goal.returns-in-325
unfolding ahead zeros step
returns-in-325 c = arm 8 69 _ c.in-325.is

pub returns-in-326 : goal.returns-in-326
unfolding ahead zeros step
returns-in-326 c = arm 8 70 _ c.in-326.is

pub returns-in-327 : goal.returns-in-327
unfolding ahead zeros step
returns-in-327 c = arm 8 71 _ c.in-327.is

pub returns-in-328 : goal.returns-in-328
unfolding ahead zeros step
returns-in-328 c = arm 8 72 _ c.in-328.is

pub returns-in-329 : goal.returns-in-329
unfolding ahead zeros step
returns-in-329 c = arm 8 73 _ c.in-329.is

pub returns-in-330 : goal.returns-in-330
unfolding ahead zeros step
returns-in-330 c = arm 8 74 _ c.in-330.is

pub returns-in-331 : goal.returns-in-331
unfolding ahead zeros step
returns-in-331 c = arm 8 75 _ c.in-331.is

pub returns-in-332 : goal.returns-in-332
unfolding ahead zeros step
returns-in-332 c = arm 8 76 _ c.in-332.is

pub returns-in-333 : goal.returns-in-333
unfolding ahead zeros step
returns-in-333 c = arm 8 77 _ c.in-333.is

pub returns-in-334 : goal.returns-in-334
unfolding ahead zeros step
returns-in-334 c = arm 8 78 _ c.in-334.is

pub returns-in-335 : goal.returns-in-335
unfolding ahead zeros step
returns-in-335 c = arm 8 79 _ c.in-335.is

pub returns-in-336 : goal.returns-in-336
unfolding ahead zeros step
returns-in-336 c = arm 8 80 _ c.in-336.is

pub returns-in-337 : goal.returns-in-337
unfolding ahead zeros step
returns-in-337 c = arm 8 81 _ c.in-337.is

pub returns-in-338 : goal.returns-in-338
unfolding ahead zeros step
returns-in-338 c = arm 8 82 _ c.in-338.is

pub returns-in-339 : goal.returns-in-339
unfolding ahead zeros step
returns-in-339 c = arm 8 83 _ c.in-339.is

pub returns-in-340 : goal.returns-in-340
unfolding ahead zeros step
returns-in-340 c = arm 8 84 _ c.in-340.is

pub returns-in-341 : goal.returns-in-341
unfolding ahead zeros step
returns-in-341 c = arm 8 85 _ c.in-341.is

pub returns-in-342 : goal.returns-in-342
unfolding ahead zeros step
returns-in-342 c = arm 8 86 _ c.in-342.is

pub returns-in-343 : goal.returns-in-343
unfolding ahead zeros step
returns-in-343 c = arm 8 87 _ c.in-343.is

pub returns-in-344 : goal.returns-in-344
unfolding ahead zeros step
returns-in-344 c = arm 8 88 _ c.in-344.is

pub returns-in-345 : goal.returns-in-345
unfolding ahead zeros step
returns-in-345 c = arm 8 89 _ c.in-345.is

pub returns-in-346 : goal.returns-in-346
unfolding ahead zeros step
returns-in-346 c = arm 8 90 _ c.in-346.is

pub returns-in-347 : goal.returns-in-347
unfolding ahead zeros step
returns-in-347 c = arm 8 91 _ c.in-347.is

pub returns-in-348 : goal.returns-in-348
unfolding ahead zeros step
returns-in-348 c = arm 8 92 _ c.in-348.is

pub returns-in-349 : goal.returns-in-349
unfolding ahead zeros step
returns-in-349 c = arm 8 93 _ c.in-349.is

pub returns-in-350 : goal.returns-in-350
unfolding ahead zeros step
returns-in-350 c = arm 8 94 _ c.in-350.is

pub returns-in-351 : goal.returns-in-351
unfolding ahead zeros step
returns-in-351 c = arm 8 95 _ c.in-351.is

pub returns-in-352 : goal.returns-in-352
unfolding ahead zeros step
returns-in-352 c = arm 8 96 _ c.in-352.is

pub returns-in-353 : goal.returns-in-353
unfolding ahead zeros step
returns-in-353 c = arm 8 97 _ c.in-353.is

pub returns-in-354 : goal.returns-in-354
unfolding ahead zeros step
returns-in-354 c = arm 8 98 _ c.in-354.is

pub returns-in-355 : goal.returns-in-355
unfolding ahead zeros step
returns-in-355 c = arm 8 99 _ c.in-355.is

pub returns-in-356 : goal.returns-in-356
unfolding ahead zeros step
returns-in-356 c = arm 8 100 _ c.in-356.is

pub returns-in-357 : goal.returns-in-357
unfolding ahead zeros step
returns-in-357 c = arm 8 101 _ c.in-357.is

pub returns-in-358 : goal.returns-in-358
unfolding ahead zeros step
returns-in-358 c = arm 8 102 _ c.in-358.is

pub returns-in-359 : goal.returns-in-359
unfolding ahead zeros step
returns-in-359 c = arm 8 103 _ c.in-359.is

pub returns-in-360 : goal.returns-in-360
unfolding ahead zeros step
returns-in-360 c = arm 8 104 _ c.in-360.is

pub returns-in-361 : goal.returns-in-361
unfolding ahead zeros step
returns-in-361 c = arm 8 105 _ c.in-361.is

pub returns-in-362 : goal.returns-in-362
unfolding ahead zeros step
returns-in-362 c = arm 8 106 _ c.in-362.is

pub returns-in-363 : goal.returns-in-363
unfolding ahead zeros step
returns-in-363 c = arm 8 107 _ c.in-363.is

pub returns-in-364 : goal.returns-in-364
unfolding ahead zeros step
returns-in-364 c = arm 8 108 _ c.in-364.is

pub returns-in-365 : goal.returns-in-365
unfolding ahead zeros step
returns-in-365 c = arm 8 109 _ c.in-365.is

pub returns-in-366 : goal.returns-in-366
unfolding ahead zeros step
returns-in-366 c = arm 8 110 _ c.in-366.is

pub returns-in-367 : goal.returns-in-367
unfolding ahead zeros step
returns-in-367 c = arm 8 111 _ c.in-367.is

pub returns-in-368 : goal.returns-in-368
unfolding ahead zeros step
returns-in-368 c = arm 8 112 _ c.in-368.is

pub returns-in-369 : goal.returns-in-369
unfolding ahead zeros step
returns-in-369 c = arm 8 113 _ c.in-369.is

pub returns-in-370 : goal.returns-in-370
unfolding ahead zeros step
returns-in-370 c = arm 8 114 _ c.in-370.is

pub returns-in-371 : goal.returns-in-371
unfolding ahead zeros step
returns-in-371 c = arm 8 115 _ c.in-371.is

pub returns-in-372 : goal.returns-in-372
unfolding ahead zeros step
returns-in-372 c = arm 8 116 _ c.in-372.is

pub returns-in-373 : goal.returns-in-373
unfolding ahead zeros step
returns-in-373 c = arm 8 117 _ c.in-373.is

pub returns-in-374 : goal.returns-in-374
unfolding ahead zeros step
returns-in-374 c = arm 8 118 _ c.in-374.is

pub returns-in-375 : goal.returns-in-375
unfolding ahead zeros step
returns-in-375 c = arm 8 119 _ c.in-375.is

pub returns-in-376 : goal.returns-in-376
unfolding ahead zeros step
returns-in-376 c = arm 8 120 _ c.in-376.is

pub returns-in-377 : goal.returns-in-377
unfolding ahead zeros step
returns-in-377 c = arm 8 121 _ c.in-377.is

pub returns-in-378 : goal.returns-in-378
unfolding ahead zeros step
returns-in-378 c = arm 8 122 _ c.in-378.is

pub returns-in-379 : goal.returns-in-379
unfolding ahead zeros step
returns-in-379 c = arm 8 123 _ c.in-379.is

pub returns-in-380 : goal.returns-in-380
unfolding ahead zeros step
returns-in-380 c = arm 8 124 _ c.in-380.is

pub returns-in-381 : goal.returns-in-381
unfolding ahead zeros step
returns-in-381 c = arm 8 125 _ c.in-381.is

pub returns-in-382 : goal.returns-in-382
unfolding ahead zeros step
returns-in-382 c = arm 8 126 _ c.in-382.is

pub returns-in-383 : goal.returns-in-383
unfolding ahead zeros step
returns-in-383 c = arm 8 127 _ c.in-383.is

pub returns-in-384 : goal.returns-in-384
unfolding ahead zeros step
returns-in-384 c = arm 8 128 _ c.in-384.is

pub returns-in-385 : goal.returns-in-385
unfolding ahead zeros step
returns-in-385 c = arm 8 129 _ c.in-385.is

pub returns-in-386 : goal.returns-in-386
unfolding ahead zeros step
returns-in-386 c = arm 8 130 _ c.in-386.is

pub returns-in-387 : goal.returns-in-387
unfolding ahead zeros step
returns-in-387 c = arm 8 131 _ c.in-387.is

pub returns-in-388 : goal.returns-in-388
unfolding ahead zeros step
returns-in-388 c = arm 8 132 _ c.in-388.is

pub returns-in-389 : goal.returns-in-389
unfolding ahead zeros step
returns-in-389 c = arm 8 133 _ c.in-389.is

pub returns-in-390 : goal.returns-in-390
unfolding ahead zeros step
returns-in-390 c = arm 8 134 _ c.in-390.is

pub returns-in-391 : goal.returns-in-391
unfolding ahead zeros step
returns-in-391 c = arm 8 135 _ c.in-391.is

pub returns-in-392 : goal.returns-in-392
unfolding ahead zeros step
returns-in-392 c = arm 8 136 _ c.in-392.is

pub returns-in-393 : goal.returns-in-393
unfolding ahead zeros step
returns-in-393 c = arm 8 137 _ c.in-393.is

pub returns-in-394 : goal.returns-in-394
unfolding ahead zeros step
returns-in-394 c = arm 8 138 _ c.in-394.is

pub returns-in-395 : goal.returns-in-395
unfolding ahead zeros step
returns-in-395 c = arm 8 139 _ c.in-395.is

pub returns-in-396 : goal.returns-in-396
unfolding ahead zeros step
returns-in-396 c = arm 8 140 _ c.in-396.is

pub returns-in-397 : goal.returns-in-397
unfolding ahead zeros step
returns-in-397 c = arm 8 141 _ c.in-397.is

pub returns-in-398 : goal.returns-in-398
unfolding ahead zeros step
returns-in-398 c = arm 8 142 _ c.in-398.is

pub returns-in-399 : goal.returns-in-399
unfolding ahead zeros step
returns-in-399 c = arm 8 143 _ c.in-399.is

pub returns-in-400 : goal.returns-in-400
unfolding ahead zeros step
returns-in-400 c = arm 8 144 _ c.in-400.is

pub returns-in-401 : goal.returns-in-401
unfolding ahead zeros step
returns-in-401 c = arm 8 145 _ c.in-401.is

pub returns-in-402 : goal.returns-in-402
unfolding ahead zeros step
returns-in-402 c = arm 8 146 _ c.in-402.is

pub returns-in-403 : goal.returns-in-403
unfolding ahead zeros step
returns-in-403 c = arm 8 147 _ c.in-403.is

pub returns-in-404 : goal.returns-in-404
unfolding ahead zeros step
returns-in-404 c = arm 8 148 _ c.in-404.is

pub returns-in-405 : goal.returns-in-405
unfolding ahead zeros step
returns-in-405 c = arm 8 149 _ c.in-405.is

pub returns-in-406 : goal.returns-in-406
unfolding ahead zeros step
returns-in-406 c = arm 8 150 _ c.in-406.is

pub returns-in-407 : goal.returns-in-407
unfolding ahead zeros step
returns-in-407 c = arm 8 151 _ c.in-407.is

pub returns-in-408 : goal.returns-in-408
unfolding ahead zeros step
returns-in-408 c = arm 8 152 _ c.in-408.is

pub returns-in-409 : goal.returns-in-409
unfolding ahead zeros step
returns-in-409 c = arm 8 153 _ c.in-409.is

pub returns-in-410 : goal.returns-in-410
unfolding ahead zeros step
returns-in-410 c = arm 8 154 _ c.in-410.is

pub returns-in-411 : goal.returns-in-411
unfolding ahead zeros step
returns-in-411 c = arm 8 155 _ c.in-411.is

pub returns-in-412 : goal.returns-in-412
unfolding ahead zeros step
returns-in-412 c = arm 8 156 _ c.in-412.is

pub returns-in-413 : goal.returns-in-413
unfolding ahead zeros step
returns-in-413 c = arm 8 157 _ c.in-413.is

pub returns-in-414 : goal.returns-in-414
unfolding ahead zeros step
returns-in-414 c = arm 8 158 _ c.in-414.is

pub returns-in-415 : goal.returns-in-415
unfolding ahead zeros step
returns-in-415 c = arm 8 159 _ c.in-415.is

pub returns-in-416 : goal.returns-in-416
unfolding ahead zeros step
returns-in-416 c = arm 8 160 _ c.in-416.is

pub returns-in-417 : goal.returns-in-417
unfolding ahead zeros step
returns-in-417 c = arm 8 161 _ c.in-417.is

pub returns-in-418 : goal.returns-in-418
unfolding ahead zeros step
returns-in-418 c = arm 8 162 _ c.in-418.is

pub returns-in-419 : goal.returns-in-419
unfolding ahead zeros step
returns-in-419 c = arm 8 163 _ c.in-419.is

pub returns-in-420 : goal.returns-in-420
unfolding ahead zeros step
returns-in-420 c = arm 8 164 _ c.in-420.is

pub returns-in-421 : goal.returns-in-421
unfolding ahead zeros step
returns-in-421 c = arm 8 165 _ c.in-421.is

pub returns-in-422 : goal.returns-in-422
unfolding ahead zeros step
returns-in-422 c = arm 8 166 _ c.in-422.is

pub returns-in-423 : goal.returns-in-423
unfolding ahead zeros step
returns-in-423 c = arm 8 167 _ c.in-423.is

pub returns-in-424 : goal.returns-in-424
unfolding ahead zeros step
returns-in-424 c = arm 8 168 _ c.in-424.is

pub returns-in-425 : goal.returns-in-425
unfolding ahead zeros step
returns-in-425 c = arm 8 169 _ c.in-425.is

pub returns-in-426 : goal.returns-in-426
unfolding ahead zeros step
returns-in-426 c = arm 8 170 _ c.in-426.is

pub returns-in-427 : goal.returns-in-427
unfolding ahead zeros step
returns-in-427 c = arm 8 171 _ c.in-427.is

pub returns-in-428 : goal.returns-in-428
unfolding ahead zeros step
returns-in-428 c = arm 8 172 _ c.in-428.is

pub returns-in-429 : goal.returns-in-429
unfolding ahead zeros step
returns-in-429 c = arm 8 173 _ c.in-429.is

pub returns-in-430 : goal.returns-in-430
unfolding ahead zeros step
returns-in-430 c = arm 8 174 _ c.in-430.is

pub returns-in-431 : goal.returns-in-431
unfolding ahead zeros step
returns-in-431 c = arm 8 175 _ c.in-431.is

pub returns-in-432 : goal.returns-in-432
unfolding ahead zeros step
returns-in-432 c = arm 8 176 _ c.in-432.is

pub returns-in-433 : goal.returns-in-433
unfolding ahead zeros step
returns-in-433 c = arm 8 177 _ c.in-433.is

pub returns-in-434 : goal.returns-in-434
unfolding ahead zeros step
returns-in-434 c = arm 8 178 _ c.in-434.is

pub returns-in-435 : goal.returns-in-435
unfolding ahead zeros step
returns-in-435 c = arm 8 179 _ c.in-435.is

pub returns-in-436 : goal.returns-in-436
unfolding ahead zeros step
returns-in-436 c = arm 8 180 _ c.in-436.is

pub returns-in-437 : goal.returns-in-437
unfolding ahead zeros step
returns-in-437 c = arm 8 181 _ c.in-437.is

pub returns-in-438 : goal.returns-in-438
unfolding ahead zeros step
returns-in-438 c = arm 8 182 _ c.in-438.is

pub returns-in-439 : goal.returns-in-439
unfolding ahead zeros step
returns-in-439 c = arm 8 183 _ c.in-439.is

pub returns-in-440 : goal.returns-in-440
unfolding ahead zeros step
returns-in-440 c = arm 8 184 _ c.in-440.is

pub returns-in-441 : goal.returns-in-441
unfolding ahead zeros step
returns-in-441 c = arm 8 185 _ c.in-441.is

pub returns-in-442 : goal.returns-in-442
unfolding ahead zeros step
returns-in-442 c = arm 8 186 _ c.in-442.is

pub returns-in-443 : goal.returns-in-443
unfolding ahead zeros step
returns-in-443 c = arm 8 187 _ c.in-443.is

pub returns-in-444 : goal.returns-in-444
unfolding ahead zeros step
returns-in-444 c = arm 8 188 _ c.in-444.is

pub returns-in-445 : goal.returns-in-445
unfolding ahead zeros step
returns-in-445 c = arm 8 189 _ c.in-445.is

pub returns-in-446 : goal.returns-in-446
unfolding ahead zeros step
returns-in-446 c = arm 8 190 _ c.in-446.is

pub returns-in-447 : goal.returns-in-447
unfolding ahead zeros step
returns-in-447 c = arm 8 191 _ c.in-447.is

pub returns-in-448 : goal.returns-in-448
unfolding ahead zeros step
returns-in-448 c = arm 8 192 _ c.in-448.is

pub returns-in-449 : goal.returns-in-449
unfolding ahead zeros step
returns-in-449 c = arm 8 193 _ c.in-449.is

pub returns-in-450 : goal.returns-in-450
unfolding ahead zeros step
returns-in-450 c = arm 8 194 _ c.in-450.is

pub returns-in-451 : goal.returns-in-451
unfolding ahead zeros step
returns-in-451 c = arm 8 195 _ c.in-451.is

pub returns-in-452 : goal.returns-in-452
unfolding ahead zeros step
returns-in-452 c = arm 8 196 _ c.in-452.is

pub returns-in-453 : goal.returns-in-453
unfolding ahead zeros step
returns-in-453 c = arm 8 197 _ c.in-453.is

pub returns-in-454 : goal.returns-in-454
unfolding ahead zeros step
returns-in-454 c = arm 8 198 _ c.in-454.is

pub returns-in-455 : goal.returns-in-455
unfolding ahead zeros step
returns-in-455 c = arm 8 199 _ c.in-455.is

pub returns-in-456 : goal.returns-in-456
unfolding ahead zeros step
returns-in-456 c = arm 8 200 _ c.in-456.is

pub returns-in-457 : goal.returns-in-457
unfolding ahead zeros step
returns-in-457 c = arm 8 201 _ c.in-457.is

pub returns-in-458 : goal.returns-in-458
unfolding ahead zeros step
returns-in-458 c = arm 8 202 _ c.in-458.is

pub returns-in-459 : goal.returns-in-459
unfolding ahead zeros step
returns-in-459 c = arm 8 203 _ c.in-459.is

pub returns-in-460 : goal.returns-in-460
unfolding ahead zeros step
returns-in-460 c = arm 8 204 _ c.in-460.is

pub returns-in-461 : goal.returns-in-461
unfolding ahead zeros step
returns-in-461 c = arm 8 205 _ c.in-461.is

pub returns-in-462 : goal.returns-in-462
unfolding ahead zeros step
returns-in-462 c = arm 8 206 _ c.in-462.is

pub returns-in-463 : goal.returns-in-463
unfolding ahead zeros step
returns-in-463 c = arm 8 207 _ c.in-463.is

pub returns-in-464 : goal.returns-in-464
unfolding ahead zeros step
returns-in-464 c = arm 8 208 _ c.in-464.is

pub returns-in-465 : goal.returns-in-465
unfolding ahead zeros step
returns-in-465 c = arm 8 209 _ c.in-465.is

pub returns-in-466 : goal.returns-in-466
unfolding ahead zeros step
returns-in-466 c = arm 8 210 _ c.in-466.is

pub returns-in-467 : goal.returns-in-467
unfolding ahead zeros step
returns-in-467 c = arm 8 211 _ c.in-467.is

pub returns-in-468 : goal.returns-in-468
unfolding ahead zeros step
returns-in-468 c = arm 8 212 _ c.in-468.is

pub returns-in-469 : goal.returns-in-469
unfolding ahead zeros step
returns-in-469 c = arm 8 213 _ c.in-469.is

pub returns-in-470 : goal.returns-in-470
unfolding ahead zeros step
returns-in-470 c = arm 8 214 _ c.in-470.is

pub returns-in-471 : goal.returns-in-471
unfolding ahead zeros step
returns-in-471 c = arm 8 215 _ c.in-471.is

pub returns-in-472 : goal.returns-in-472
unfolding ahead zeros step
returns-in-472 c = arm 8 216 _ c.in-472.is

pub returns-in-473 : goal.returns-in-473
unfolding ahead zeros step
returns-in-473 c = arm 8 217 _ c.in-473.is

pub returns-in-474 : goal.returns-in-474
unfolding ahead zeros step
returns-in-474 c = arm 8 218 _ c.in-474.is

pub returns-in-475 : goal.returns-in-475
unfolding ahead zeros step
returns-in-475 c = arm 8 219 _ c.in-475.is

pub returns-in-476 : goal.returns-in-476
unfolding ahead zeros step
returns-in-476 c = arm 8 220 _ c.in-476.is

pub returns-in-477 : goal.returns-in-477
unfolding ahead zeros step
returns-in-477 c = arm 8 221 _ c.in-477.is

pub returns-in-478 : goal.returns-in-478
unfolding ahead zeros step
returns-in-478 c = arm 8 222 _ c.in-478.is

pub returns-in-479 : goal.returns-in-479
unfolding ahead zeros step
returns-in-479 c = arm 8 223 _ c.in-479.is

pub returns-in-480 : goal.returns-in-480
unfolding ahead zeros step
returns-in-480 c = arm 8 224 _ c.in-480.is

pub returns-in-481 : goal.returns-in-481
unfolding ahead zeros step
returns-in-481 c = arm 8 225 _ c.in-481.is

pub returns-in-482 : goal.returns-in-482
unfolding ahead zeros step
returns-in-482 c = arm 8 226 _ c.in-482.is

pub returns-in-483 : goal.returns-in-483
unfolding ahead zeros step
returns-in-483 c = arm 8 227 _ c.in-483.is

pub returns-in-484 : goal.returns-in-484
unfolding ahead zeros step
returns-in-484 c = arm 8 228 _ c.in-484.is

pub returns-in-485 : goal.returns-in-485
unfolding ahead zeros step
returns-in-485 c = arm 8 229 _ c.in-485.is

pub returns-in-486 : goal.returns-in-486
unfolding ahead zeros step
returns-in-486 c = arm 8 230 _ c.in-486.is

pub returns-in-487 : goal.returns-in-487
unfolding ahead zeros step
returns-in-487 c = arm 8 231 _ c.in-487.is

pub returns-in-488 : goal.returns-in-488
unfolding ahead zeros step
returns-in-488 c = arm 8 232 _ c.in-488.is

pub returns-in-489 : goal.returns-in-489
unfolding ahead zeros step
returns-in-489 c = arm 8 233 _ c.in-489.is

pub returns-in-490 : goal.returns-in-490
unfolding ahead zeros step
returns-in-490 c = arm 8 234 _ c.in-490.is

pub returns-in-491 : goal.returns-in-491
unfolding ahead zeros step
returns-in-491 c = arm 8 235 _ c.in-491.is

pub returns-in-492 : goal.returns-in-492
unfolding ahead zeros step
returns-in-492 c = arm 8 236 _ c.in-492.is

pub returns-in-493 : goal.returns-in-493
unfolding ahead zeros step
returns-in-493 c = arm 8 237 _ c.in-493.is

pub returns-in-494 : goal.returns-in-494
unfolding ahead zeros step
returns-in-494 c = arm 8 238 _ c.in-494.is

pub returns-in-495 : goal.returns-in-495
unfolding ahead zeros step
returns-in-495 c = arm 8 239 _ c.in-495.is

pub returns-in-496 : goal.returns-in-496
unfolding ahead zeros step
returns-in-496 c = arm 8 240 _ c.in-496.is

pub returns-in-497 : goal.returns-in-497
unfolding ahead zeros step
returns-in-497 c = arm 8 241 _ c.in-497.is

pub returns-in-498 : goal.returns-in-498
unfolding ahead zeros step
returns-in-498 c = arm 8 242 _ c.in-498.is

pub returns-in-499 : goal.returns-in-499
unfolding ahead zeros step
returns-in-499 c = arm 8 243 _ c.in-499.is

pub returns-in-500 : goal.returns-in-500
unfolding ahead zeros step
returns-in-500 c = arm 8 244 _ c.in-500.is

pub returns-in-501 : goal.returns-in-501
unfolding ahead zeros step
returns-in-501 c = arm 8 245 _ c.in-501.is

pub returns-in-502 : goal.returns-in-502
unfolding ahead zeros step
returns-in-502 c = arm 8 246 _ c.in-502.is

pub returns-in-503 : goal.returns-in-503
unfolding ahead zeros step
returns-in-503 c = arm 8 247 _ c.in-503.is

pub returns-in-504 : goal.returns-in-504
unfolding ahead zeros step
returns-in-504 c = arm 8 248 _ c.in-504.is

pub returns-in-505 : goal.returns-in-505
unfolding ahead zeros step
returns-in-505 c = arm 8 249 _ c.in-505.is

pub returns-in-506 : goal.returns-in-506
unfolding ahead zeros step
returns-in-506 c = arm 8 250 _ c.in-506.is

pub returns-in-507 : goal.returns-in-507
unfolding ahead zeros step
returns-in-507 c = arm 8 251 _ c.in-507.is

pub returns-in-508 : goal.returns-in-508
unfolding ahead zeros step
returns-in-508 c = arm 8 252 _ c.in-508.is

pub returns-in-509 : goal.returns-in-509
unfolding ahead zeros step
returns-in-509 c = arm 8 253 _ c.in-509.is

pub returns-in-510 : goal.returns-in-510
unfolding ahead zeros step
returns-in-510 c = arm 8 254 _ c.in-510.is

pub returns-in_default : goal.returns-in_default
unfolding ahead zeros step
returns-in_default c = arm 8 255 (c.args.x / 2 ^ 8 % 256) (omega arith)
